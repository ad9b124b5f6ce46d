-- The laws that the functions' proofs cite.
pub mod KindNumbers
pub mod KindRules
pub mod OkErr
pub mod Rejections
