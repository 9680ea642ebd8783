-- The node file of the crate's proofs.
pub mod Walk
pub mod Laws
pub mod HeaderOnly
