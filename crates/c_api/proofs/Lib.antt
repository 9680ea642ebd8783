-- The root of the crate's laws.
pub mod Noting
pub mod LoopInvariant
pub mod Same
pub mod Placing
pub mod Month
pub mod Valued
pub mod Asked
pub mod Relists
pub mod Started
