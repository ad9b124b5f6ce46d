-- What the functions of this crate require.
pub mod Before
