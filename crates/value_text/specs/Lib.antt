-- The root of the crate's definitions.
pub mod Value
pub mod Inner
