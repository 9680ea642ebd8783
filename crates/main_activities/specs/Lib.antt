-- The root of the crate's definitions.
pub mod Activities
pub mod Inner
