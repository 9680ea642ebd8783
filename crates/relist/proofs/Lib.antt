-- The root of the crate's laws.
pub mod Judging
pub mod Writing
