-- The node file of the crate's proofs: a folder for each theme, and the claims.
pub mod Events
pub mod Settle
pub mod Structure
pub mod Insertion
pub mod Damaged
pub mod Room
pub mod Parts
pub mod Small
pub mod Lost
pub mod Cases
pub mod Broken
pub mod Modes
pub mod Calls
pub mod Claims
