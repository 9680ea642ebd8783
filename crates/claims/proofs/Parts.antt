-- A part of the head that is short: docs/FORMAT.md, H15, P6.
pub mod Theorem
