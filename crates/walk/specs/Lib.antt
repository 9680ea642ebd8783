-- The root of the crate's definitions: Settle and Reading say what comes back.
pub mod Settle
pub mod Reading
pub mod Inner
