-- The node file of the crate's proofs.
pub mod Parts
pub mod Index
pub mod Read
pub mod Plains
pub mod Wholes
pub mod Named
pub mod Others
pub mod Marking
pub mod Laws
