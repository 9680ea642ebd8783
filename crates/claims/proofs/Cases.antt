-- File S and its relatives, computed: docs/FORMAT.md, L4, L5, P7.
pub mod Computing
pub mod Table
pub mod CasesOfRead
pub mod InsertionParts
pub mod Insertions
pub mod LostCases
