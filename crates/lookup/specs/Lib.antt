-- What the functions that look into a state require and answer.
pub mod Ready
pub mod FoundReplicas
pub mod KindContracts
