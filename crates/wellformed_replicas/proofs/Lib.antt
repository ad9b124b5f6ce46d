-- Laws of the words of a replica.
pub mod FirstWords
pub mod ReplicaWords
pub mod Shapes
