-- What a replay reports and leaves is in the crate `model`; here is what its run reports and leaves, once the state is tested.
pub mod Run
