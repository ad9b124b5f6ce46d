-- What the functions for C answer and leave, beyond the definitions of `model`; and the words that they write of an answer.
pub mod WordOutputs
pub mod TallyWords
pub mod State
pub mod Replays
pub mod Counts
pub mod StepOutputs
pub mod TallyOutputs
pub mod ListOutputs
pub mod Transcripts
pub mod Spreadsheets
pub mod TraceOutputs
