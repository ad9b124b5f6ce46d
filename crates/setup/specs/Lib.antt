-- What the functions inside setup require.
pub mod Planned
