-- The root of the crate's definitions.
pub mod Pairs
pub mod Inner
