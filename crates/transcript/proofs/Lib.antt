-- Laws of the text.
-- The lines
pub mod RunLines
-- The largest text
pub mod StepSizes
pub mod LogSizes
pub mod StepAnswers
pub mod ReplayedState
pub mod LineSizes
pub mod LargestText
-- The whole text
pub mod WholeText
pub mod Delivery
