-- Versions of a program that break its promise, each of every program of its sort: docs/FORMAT.md, P5.
pub mod Witnesses
pub mod Readers
pub mod Askers
pub mod Tellers
