-- The node file of the crate's proofs.
pub mod Append
pub mod Ends
pub mod Laws
pub mod Offsets
pub mod Strings
pub mod Shorts
