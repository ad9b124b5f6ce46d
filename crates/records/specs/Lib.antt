-- What is claimed of the text for spreadsheets.
pub mod Plain
pub mod LargestCsv
pub mod Once
pub mod KeptRows
