-- How the code goes: no public promise and no claim reaches these definitions, so they need not be believed.
pub mod Starts
pub mod Pending
pub mod Remembered
pub mod Steps
