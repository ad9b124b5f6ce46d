-- Laws of the outputs.
pub mod Reports
pub mod Counts
pub mod StepWords
pub mod TallyOutputs
pub mod TraceOutputs
