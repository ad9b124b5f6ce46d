-- Laws that the proofs of the machine's functions share.
pub mod Ladders
pub mod ByKind
