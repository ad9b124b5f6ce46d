-- Laws of the words that are written of an answer.
pub mod TallyWords
