-- What is copied of a replica, and which replica of a shard is picked.
pub mod Listing
pub mod StableEntries
pub mod Pick
