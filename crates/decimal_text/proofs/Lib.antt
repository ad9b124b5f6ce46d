-- The laws that the functions' proofs cite, and those of whoever writes a text with them.
pub mod DecimalLaws
pub mod LastDigits
pub mod Digits
pub mod Appending
