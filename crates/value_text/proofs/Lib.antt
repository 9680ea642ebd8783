-- The node file of the crate's proofs.
pub mod Broken
pub mod Cases
pub mod Claimed
pub mod Front
pub mod Strings
pub mod Looking
pub mod Opening
