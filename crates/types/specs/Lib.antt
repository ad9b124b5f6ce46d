-- What the functions on the shared types answer.
pub mod Kinds
pub mod Rejections
pub mod Rules
pub mod StepNames
pub mod Members
pub mod ReplicaPlace
