-- What the listing program lists: docs/FORMAT.md, L1 to L4.
--
--   listed_room   the room of a listing whose tables have so many words; its places for notes, its cap and its mode are always the same
--   listed       the reading of what came in; more bytes than the limit are refused with 2, and leave zeros as every refusal does
--   ReadsToList  what the code leaves of that reading: the numbers of its answer, and its three tables
--   listed_text   its listing
--   Lists        what `list_into` promises: the answer and the buffer (listing_text, `Printed`), and every word of both tables
--
-- That the program's room suffices: proofs/Fits.antt, `listed_text-fits`.
use Rattle.std.specs.Prelude.{ℕ, ◌≡◌, cond, List, [], length, ltb, Result}
use Rattle.anomaly.specs.declared.Note.{Note}
use Rattle.errors.specs.Refusal.{numbers_of}
use Rattle.errors.specs.declared.ReadCounts.{ReadCounts}
use Rattle.errors.specs.declared.Refusal.{Refusal}
use Rattle.errors.specs.declared.Refusal.TheVariants.{TooLargeError}
use Rattle.records.specs.Limits.{listed_file, listed_notes, listed_cap}
use Rattle.records.specs.Words.{merged}
use Rattle.system_types.specs.Names.{lends}
use Rattle.walk.specs.Settle.{Room}
use Rattle.walk.specs.Reading.{Reading, refuses, reading}
use Rattle.listing_text.specs.Listing.{listing_text}
use Rattle.listing_text.specs.Printed.{Printed}

abbrev pub listed_room : ℕ → ℕ → Room
listed_room ns ats = record { nodes = ns; attributes = ats; notes = listed_notes; cap = listed_cap; mode = merged }

unfoldable pub listed : List ℕ → ℕ → ℕ → Reading
listed f ns ats = cond (ltb listed_file (length f)) (refuses (listed_room ns ats) TooLargeError) (reading (listed_room ns ats) f (lends [] []))

pub record ReadsToList (f ns ats : List ℕ) (r : Result ReadCounts Refusal) (ns' ats' : List ℕ) (os : List Note) : Type 0 where
  pub answer : numbers_of r ≡ numbers_of (listed f (length ns) (length ats)).answer
  pub nodes : ns' ≡ (listed f (length ns) (length ats)).nodes
  pub attributes : ats' ≡ (listed f (length ns) (length ats)).attributes
  pub notes : os ≡ (listed f (length ns) (length ats)).notes

-- the listing of a reading
abbrev pub text_in : Reading → List ℕ
text_in g = listing_text listed_cap (numbers_of g.answer) g.nodes g.attributes g.notes

abbrev pub listed_text : List ℕ → ℕ → ℕ → List ℕ
listed_text f ns ats = text_in (listed f ns ats)

pub record Lists (f ns ats before : List ℕ) (r : Result ℕ Refusal) (ns' ats' after : List ℕ) : Type 0 where
  pub printed : Printed (listed_text f (length ns) (length ats)) before r after
  pub nodes : ns' ≡ (listed f (length ns) (length ats)).nodes
  pub attributes : ats' ≡ (listed f (length ns) (length ats)).attributes
