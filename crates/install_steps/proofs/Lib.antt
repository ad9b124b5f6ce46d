-- Laws that the proofs of an install share.
pub mod PendingStores
pub mod InstallReads
pub mod Wedges
pub mod InstallStores
pub mod InstallSteps
