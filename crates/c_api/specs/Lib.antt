-- The root of the crate's definitions.
pub mod Words
pub mod Answers
pub mod Place
pub mod Abi
pub mod Adding
pub mod Values
pub mod Asking
pub mod Relisting
pub mod Starting
pub mod Inner
