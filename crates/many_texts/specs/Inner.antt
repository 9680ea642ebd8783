-- How the code goes: what stands here is cited by inner contracts alone, and need not be believed.
pub mod Going
pub mod Known
