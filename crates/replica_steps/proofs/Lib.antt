-- Laws that the proofs of an add share.
pub mod Conflicts
pub mod AddStores
pub mod AddSteps
