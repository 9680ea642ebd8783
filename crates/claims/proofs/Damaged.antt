-- Foreign chunks put into a file with damaged names: docs/FORMAT.md, B13, P3.
pub mod WithoutDamage
pub mod Theorem
