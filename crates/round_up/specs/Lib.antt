-- The root of the crate's definitions.
pub mod RoundUp
pub mod Kinds
pub mod History
pub mod Inner
