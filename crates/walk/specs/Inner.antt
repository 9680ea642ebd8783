-- How the code goes: no public promise and no claim reaches these definitions, so they need not be believed.
pub mod KnownSoFar
pub mod Outcome
pub mod Pass
pub mod Run
pub mod Tree
