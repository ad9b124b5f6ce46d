-- What the tests of a step's numbers answer.
pub mod StepRanges
pub mod Acting
