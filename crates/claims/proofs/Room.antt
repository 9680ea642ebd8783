-- Room that always suffices: docs/FORMAT.md, L1.
pub mod StartCounts
pub mod FileCounts
pub mod Theorem
