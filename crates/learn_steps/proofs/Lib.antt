-- Laws that the proofs of a learn share.
pub mod LearnCompared
pub mod LearnAlike
pub mod LearnSteps
