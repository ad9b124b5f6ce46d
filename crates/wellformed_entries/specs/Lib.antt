-- What the laws of this crate speak of beyond the definitions of `model`.
pub mod Zeros
