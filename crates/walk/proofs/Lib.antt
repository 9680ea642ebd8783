-- The root of the crate's laws.
pub mod Settle
pub mod Trees
pub mod Attributes
pub mod EventCases
pub mod Running
pub mod Chains
pub mod Clearing
pub mod Advancing
pub mod PastCap
pub mod Finishing
pub mod Opening
pub mod Knowing
