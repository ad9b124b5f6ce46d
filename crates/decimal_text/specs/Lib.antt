-- What the functions of this crate answer beyond the definitions of `model`.
pub mod Appended
pub mod LastDigits
