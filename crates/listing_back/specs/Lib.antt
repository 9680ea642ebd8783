-- The root of the crate's definitions.
pub mod Inner
pub mod Forms
pub mod Due
pub mod Back
