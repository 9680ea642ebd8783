-- The root of the crate's laws.
pub mod Laws
pub mod Turns
pub mod Whole
pub mod Lengths
pub mod Sample
