-- The root of the crate's definitions.
pub mod Question
pub mod Inner
