-- The root of the crate's definitions.
pub mod Head
pub mod Entry
pub mod Ask
pub mod Inner
