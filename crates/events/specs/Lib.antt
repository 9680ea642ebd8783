-- The root of the crate's definitions.
pub mod Events
pub mod Inner
