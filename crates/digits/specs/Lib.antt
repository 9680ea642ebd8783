-- The root of the crate's definitions.
pub mod Digits
pub mod Written
