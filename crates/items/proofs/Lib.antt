-- The node file of the crate's proofs.
pub mod Laws
pub mod FlagLaws
pub mod Together
pub mod TurnLaws
pub mod RunLaws
