-- Laws of the run.
pub mod Rest
pub mod Running
pub mod Whole
