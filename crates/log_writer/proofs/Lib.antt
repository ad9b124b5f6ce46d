-- The laws that the functions' proofs cite.
pub mod StepBytes
pub mod Rejections
