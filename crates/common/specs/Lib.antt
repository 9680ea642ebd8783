-- The root of the crate's definitions.
pub mod Header
pub mod ValueType
pub mod Complex
pub mod Inner
