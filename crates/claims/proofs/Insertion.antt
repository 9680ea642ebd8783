-- Foreign chunks put into a file: docs/FORMAT.md, P3.
pub mod BodyChunks
pub mod ForeignRow
pub mod InsertedBody
pub mod InsertedFile
pub mod ForeignChunks
pub mod SameTree
pub mod Theorem
pub mod Questions
