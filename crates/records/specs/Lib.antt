-- The root of the crate's definitions.
pub mod Words
pub mod Repeats
pub mod Limits
