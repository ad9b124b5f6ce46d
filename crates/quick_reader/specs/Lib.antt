-- The steps that logs mostly have, by position. The reader answers definitions of `model`.
pub mod Short
pub mod Long
