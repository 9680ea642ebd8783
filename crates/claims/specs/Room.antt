-- Room: when a record is without a place, how much room always suffices, and the room of a listing. docs/FORMAT.md, B3 to B6, L1.
--
--   is_full_number   8, 9 and 10: a node, an attribute or a note is due and has no place; is_full of a refusal
--   HasRoom        an answer that is none of these
--   nodes_for       words for all the nodes that a file of n bytes can make: the chunk of an element has 36 bytes at least
--   attributes_for  the same of attributes: each has 20 bytes, and the leading one is paid for by its element
--   places_for      places for all the notes that a cap keeps: the kinds are counted apart
--   listing_room    the room of a listing: words for the nodes and attributes that records/Limits names
use Rattle.std.specs.Prelude.{ℕ, ◌*◌, ◌/◌, ◌≡◌, Bool, false, ◌&&◌, leb, Result, Ok, Err}
use Rattle.anomaly.specs.Note.{kinds}
use Rattle.errors.specs.Refusal.{refusal_number}
use Rattle.errors.specs.declared.Refusal.{Refusal}
use Rattle.records.specs.Words.{node_width, attribute_width}
use Rattle.records.specs.Limits.{listed_nodes, listed_attributes}
use Rattle.walk.specs.Settle.{Room}
use Rattle.listed.specs.Lists.{listed_room}
use Rattle.errors.specs.declared.ReadCounts.{ReadCounts}

abbrev pub is_full_number : ℕ → Bool
is_full_number n = leb 8 n && leb n 10

abbrev pub is_full : Refusal → Bool
is_full x = is_full_number (refusal_number x)

abbrev pub HasRoom : Result ReadCounts Refusal → Type 0
HasRoom (Ok c) = Unit {0}
HasRoom (Err x) = is_full x ≡ false

abbrev pub nodes_for : ℕ → ℕ
nodes_for n = node_width * (n / 36)

abbrev pub attributes_for : ℕ → ℕ
attributes_for n = attribute_width * (n / 20)

abbrev pub places_for : ℕ → ℕ
places_for cap = kinds * cap

abbrev pub listing_room : Room
listing_room = listed_room (node_width * listed_nodes) (attribute_width * listed_attributes)
