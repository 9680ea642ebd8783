-- The root of the crate's laws.
pub mod Places
pub mod Stores
