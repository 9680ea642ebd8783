-- The root of the crate's definitions.
pub mod Utf8
pub mod Utf16
pub mod Text
pub mod Plain
pub mod Inner
