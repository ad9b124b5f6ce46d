-- The text for spreadsheets (document 02, A1): its rows, its format, the whole, and its parts.
pub mod Rows
pub mod Format
pub mod Csv
pub mod Room
