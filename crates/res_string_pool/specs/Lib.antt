-- The root of the crate's definitions.
pub mod Pool
pub mod Content
