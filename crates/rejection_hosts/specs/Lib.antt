-- What the functions of this crate require and answer.
pub mod RejectionHosts
