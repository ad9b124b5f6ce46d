-- The proof of the table: what makes rows compute, and the rows.
pub mod Quick
pub mod Computing
pub mod States
pub mod Effects
pub mod StepOrders
pub mod Logs
pub mod TallyCases
pub mod ListCases
pub mod Texts
pub mod OwnCases
