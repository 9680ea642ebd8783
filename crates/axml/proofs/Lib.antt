-- The node file of the crate's proofs.
pub mod LoopInvariant
