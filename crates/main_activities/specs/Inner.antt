-- How the code goes: not part of what a reader must believe.
pub mod Pass
