-- What the functions of this crate leave beyond the definitions of `model` and `lookup`.
pub mod Copies
