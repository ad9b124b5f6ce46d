-- Laws of the text.
-- What is claimed of it
pub mod PlainFields
pub mod RowPlaces
pub mod EachOnce
pub mod KeptRows
pub mod LargestCsv
pub mod StateText
-- What is answered and left
pub mod CsvAnswers
