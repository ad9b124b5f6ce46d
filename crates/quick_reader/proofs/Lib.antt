-- The laws that the functions' proofs cite.
pub mod ShortSteps
pub mod Groups
pub mod Readings
pub mod LongAdds
