-- The node file of the crate's proofs.
pub mod Laws
pub mod Shares
pub mod Tallies
pub mod Order
pub mod Sums
pub mod AnswerLaws
