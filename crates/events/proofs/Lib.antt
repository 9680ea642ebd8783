-- The node file of the crate's proofs.
pub mod Model
pub mod Runs
pub mod Here
pub mod Remembering
pub mod Heads
pub mod Starts
pub mod Chunks
pub mod Steps
pub mod Local
mod Asked
mod Tests
