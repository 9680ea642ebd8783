-- The root of the crate's laws.
pub mod Going
pub mod KnownLaws
pub mod Claimed
