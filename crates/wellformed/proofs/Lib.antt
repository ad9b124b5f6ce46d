-- Laws of the number of shards, of the words of a shard and of the sequencers in a state.
pub mod Checked
pub mod FoundCount
pub mod Shards
pub mod SpacedSequencers
