-- How long a file may be, and the room of a listing: docs/FORMAT.md, B2, L1. The one place that knows them; src/lib.rt has the same numbers in code.
--
--   file_limit     the bytes of the longest file that is read
--   listed_file    the bytes of the longest file that is listed; listed_nodes, listed_attributes the records that suffice for each of these
--   listed_cap     how many notes of a kind are listed; listed_notes of all kinds
use Rattle.std.specs.Prelude.{ℕ, ◌*◌}
use Rattle.anomaly.specs.Note.{kinds}

abbrev pub file_limit : ℕ
file_limit = 16777216

abbrev pub listed_file : ℕ
listed_file = 54272

abbrev pub listed_nodes : ℕ
listed_nodes = 2048

abbrev pub listed_attributes : ℕ
listed_attributes = 2730

abbrev pub listed_cap : ℕ
listed_cap = 8

abbrev pub listed_notes : ℕ
listed_notes = listed_cap * kinds
