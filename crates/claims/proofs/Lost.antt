-- Nothing is lost without a note: docs/FORMAT.md, P7.
pub mod Matching
pub mod Marks
pub mod LastNote
pub mod Theorem
