-- The root of the crate's definitions.
pub mod Inner
pub mod Keys
pub mod Listing
pub mod Printed
pub mod Size
