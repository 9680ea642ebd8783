-- How the code goes, not to be believed: no public promise cites these files.
pub mod Placed
