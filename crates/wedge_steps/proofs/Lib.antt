-- Laws of a wedge.
pub mod WedgeSteps
