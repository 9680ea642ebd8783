-- How the code goes: no promise of a public function needs it.
pub mod Judged
