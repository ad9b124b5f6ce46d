-- What the functions inside the machine require. The definitions that the entry points cite are those of the crate `model`.
pub mod Inside
