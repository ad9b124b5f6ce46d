-- Laws of stable entries, of their copy and of the pick.
pub mod Stable
pub mod Longest
pub mod Picking
pub mod Listings
pub mod HistorySizes
