-- The laws that the functions' proofs cite.
-- Reading
pub mod FirstByte
pub mod NumberTurns
-- Writing
pub mod NumberLengths
pub mod NumberWrites
