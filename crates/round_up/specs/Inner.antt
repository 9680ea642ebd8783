-- How the code goes: no public promise and no claim reaches these.
pub mod Turns
