-- The root of the crate's definitions.
pub mod Words
pub mod Many
pub mod Single
pub mod Inner
