-- What the functions of this crate require and answer beyond the definitions of `model`.
pub mod SpacedWords
pub mod Checked
