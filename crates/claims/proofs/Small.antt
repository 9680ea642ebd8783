-- 32 bits hold each number of a reading: docs/FORMAT.md, B9 to B14, L9.
pub mod Bytes
pub mod Head
pub mod Events
pub mod Readings
