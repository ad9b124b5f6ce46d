-- What the functions of this crate require and leave beyond the definitions of `model` and `lookup`.
pub mod Next
