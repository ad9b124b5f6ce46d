-- Laws of the words that origins are told from.
pub mod OriginWords
