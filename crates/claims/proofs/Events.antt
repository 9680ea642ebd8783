-- Lists of events: what a file makes, its notes, its refusals.
pub mod NotesAndOthers
pub mod KeptNotes
pub mod EventCases
pub mod Refusals
