-- The root of the crate's definitions.
pub mod Content
pub mod Inner
