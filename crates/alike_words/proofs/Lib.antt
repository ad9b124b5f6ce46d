-- The laws that the functions' proofs cite.
pub mod Alike
pub mod EightAtOnce
