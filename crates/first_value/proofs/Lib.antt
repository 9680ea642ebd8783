-- The root of the crate's laws.
pub mod Cases
pub mod Laws
pub mod Search
pub mod Remembered
