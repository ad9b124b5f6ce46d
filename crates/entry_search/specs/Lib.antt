-- What the searches answer.
pub mod Searches
