-- Laws of the tally of a run.
pub mod TallyCounts
pub mod Tallying
pub mod TallyLaws
pub mod Turning
