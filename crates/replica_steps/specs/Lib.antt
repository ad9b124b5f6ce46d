-- What the functions of this crate require and answer beyond the definitions of `model` and `lookup`.
pub mod Adds
