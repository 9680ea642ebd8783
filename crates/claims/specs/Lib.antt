-- The root of the crate's definitions.
pub mod Insertion
pub mod Counts
pub mod Room
pub mod InC
pub mod Shape
pub mod Damaged
pub mod Lost
pub mod Cleared
pub mod Readers
pub mod Parts
pub mod Month
pub mod Modes
pub mod Askers
pub mod Relisted
pub mod Screens
