-- What the listing program's text says, for the claims about a listing read back: docs/FORMAT.md, L9.
--
--   listed_words   the words of tables that take every listing: a listing's own, with a place for each of its notes
--   said_by        what the listing of a reading says: its numbers, and the words of just its records
use Rattle.std.specs.Prelude.{ℕ, ◌*◌, take}
use Rattle.errors.specs.Refusal.{numbers_of}
use Rattle.records.specs.Words.{node_width, attribute_width, note_width}
use Rattle.records.specs.Limits.{listed_cap, listed_notes}
use Rattle.walk.specs.Reading.{Reading}
use Rattle.c_api.specs.Words.{words_of}
use Rattle.listing_back.specs.Back.{Words, Relisting}

abbrev pub listed_words : ℕ → ℕ → Words
listed_words ns ats = record { nodes = ns; attributes = ats; notes = note_width * listed_notes }

abbrev pub said_by : Reading → Relisting
said_by g = record {
  cap = listed_cap;
  numbers = numbers_of g.answer;
  nodes = take (node_width * (numbers_of g.answer).nodes) g.nodes;
  attributes = take (attribute_width * (numbers_of g.answer).attributes) g.attributes;
  notes = take (note_width * (numbers_of g.answer).notes) (words_of g.notes);
}
