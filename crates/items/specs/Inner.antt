-- How the code goes: what stands here is cited by inner contracts alone, and need not be believed.
pub mod Back
pub mod Firsts
pub mod Turns
