-- What the functions inside this crate answer: a step read in parts.
pub mod ReadInParts
