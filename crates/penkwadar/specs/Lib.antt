-- What the program's functions answer, where that can be said: no contract can tell what a call of the system reads or writes.
pub mod Counts
pub mod Passing
