-- Laws of spaced numbers and of the line of a shard.
pub mod Spaced
pub mod ShardText
