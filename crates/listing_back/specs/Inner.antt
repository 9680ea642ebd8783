-- How the code goes: no promise of a public function needs it.
pub mod Stands
pub mod Steps
pub mod Whole
