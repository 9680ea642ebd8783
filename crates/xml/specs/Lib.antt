-- The root of the crate's definitions.
pub mod NCName
pub mod Inner
