-- Laws that the proofs of these steps share.
pub mod Beginnings
pub mod InheritSource
pub mod InheritSteps
pub mod CatchUpSteps
