-- Laws of entries, and of words that are all 0.
pub mod Folds
pub mod Zeros
pub mod Takes
pub mod Marks
pub mod Sets
