-- The node file of the crate's proofs.
pub mod Laws
pub mod Pass
pub mod Prefix
pub mod Search
