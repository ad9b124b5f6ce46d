-- Laws that the proofs of setup's functions share.
pub mod InitialConcat
pub mod InitialParts
pub mod InitialShards
pub mod InitialPlan
pub mod Entry
