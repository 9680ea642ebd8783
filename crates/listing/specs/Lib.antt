-- The root of the crate's definitions.
pub mod Inner
pub mod Streams
