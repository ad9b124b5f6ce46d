-- Laws that the proofs of the tests share.
pub mod StepRanges
pub mod ActingSteps
