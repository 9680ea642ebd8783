-- The root of the crate's laws.
pub mod Hashes
pub mod Keys
pub mod Numbering
pub mod Valid
pub mod Ways
