-- What this crate's functions answer and leave, and the largest text.
pub mod Text
pub mod LargestText
