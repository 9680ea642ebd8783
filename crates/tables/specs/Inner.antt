-- How the code goes: no public promise and no claim reaches these definitions, so they need not be believed.
pub mod Keys
pub mod Numbered
pub mod Ways
