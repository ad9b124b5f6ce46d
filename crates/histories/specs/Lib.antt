-- What is read off a state: a shard's stable history, a replica's stable prefix and its trace; and what two such readings have in common.
pub mod History
pub mod NamedReplicas
pub mod Prefix
pub mod Shown
pub mod Traces
pub mod TraceLaws
