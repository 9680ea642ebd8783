-- The root of the crate's definitions.
pub mod Sort
pub mod Walk
pub mod Inner
