-- The laws that the functions' proofs cite.
pub mod StepParts
pub mod NumbersTaken
