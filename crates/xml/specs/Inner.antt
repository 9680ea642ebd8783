-- How the code goes: no public promise and no claim reaches these definitions, so they need not be believed.
pub mod SeenChars
pub mod Blocks
pub mod Rust
pub mod NameRun
pub mod ClearPlaces
