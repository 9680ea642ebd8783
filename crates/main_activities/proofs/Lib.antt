-- The root of the crate's laws.
pub mod Laws
pub mod Lists
pub mod Saying
pub mod Opening
pub mod Unique
