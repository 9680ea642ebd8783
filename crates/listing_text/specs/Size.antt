-- How many bytes a listing takes at most: docs/FORMAT.md, L1. src/lib.rt has the same numbers in code.
--
--   head_bytes     the seven lines of every listing, whatever their numbers
--   line_bytes     the line of a record, whatever its numbers: the longest is an attribute's, with 20 digits in each of seven numbers
--   listed_bytes   the listing of full tables of a listing's room, so that a buffer of this length always suffices
--
-- Laws: proofs/Lengths.antt, `listing_text-fits`.
use Rattle.std.specs.Prelude.{ℕ, ◌+◌, ◌*◌}
use Rattle.records.specs.Limits.{listed_nodes, listed_attributes, listed_notes}

abbrev pub head_bytes : ℕ
head_bytes = 195

abbrev pub line_bytes : ℕ
line_bytes = 188

abbrev pub listed_bytes : ℕ
listed_bytes = head_bytes + line_bytes * (listed_nodes + listed_attributes + listed_notes)
