-- Laws of the lists that are read off a state.
pub mod Answered
pub mod StableHistories
pub mod NamedReplicas
pub mod StablePrefixes
pub mod Shown
pub mod Traces
pub mod TraceAnswers
pub mod TraceLaws
