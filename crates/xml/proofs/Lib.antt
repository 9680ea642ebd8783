-- The root of the crate's laws.
pub mod Classes
pub mod Sorts
pub mod Chains
pub mod Names
pub mod Ascii
pub mod SeenChars
pub mod Passing
pub mod ClearPlaces
pub mod ClearBytes
pub mod UnitChars
