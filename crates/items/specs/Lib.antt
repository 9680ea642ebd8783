-- The root of the crate's definitions.
pub mod Items
pub mod Flags
pub mod Values
pub mod Inner
