-- The root of the crate's definitions.
pub mod Note
pub mod Kept
