-- The structure of every successful reading: docs/FORMAT.md, W25 to W29, B9 to B15.
pub mod Words
pub mod Shape
pub mod Tables
pub mod Done
pub mod StartCount
pub mod NodeOrder
pub mod StartDepth
pub mod WalkDepth
pub mod OpenElements
pub mod NoteTwelve
pub mod Theorem
pub mod TreeOrder
