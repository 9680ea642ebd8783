-- The root of the crate's laws.
pub mod Numerals
pub mod Lines
pub mod Sorts
pub mod Steps
pub mod Heads
pub mod Whole
pub mod Figures
pub mod Holding
pub mod Strays
pub mod Spots
pub mod Endings
pub mod Samples
