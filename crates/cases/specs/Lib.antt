-- The table of our own cases: known answers of the definitions of all crates.
pub mod CaseRows
pub mod Scripts
pub mod States
pub mod Effects
pub mod StepOrders
pub mod Bounds
pub mod Logs
pub mod Form
pub mod TallyCases
pub mod ListCases
pub mod Texts
pub mod OwnCases
