-- The two modes: docs/FORMAT.md, W22, W23, B16.
pub mod MergedEvents
pub mod Repeats
pub mod TablesBeside
pub mod Theorem
