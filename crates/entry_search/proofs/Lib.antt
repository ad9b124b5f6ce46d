-- Laws of the searches.
pub mod Searches
