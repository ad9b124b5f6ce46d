-- The tally of a replay, and what the functions inside answer, leave and require. What a replay reports and leaves is in the crate `model`.
pub mod Returns
pub mod Tally
pub mod TallyCounts
pub mod TallyLaws
