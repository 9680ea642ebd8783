-- `listing::main` is safe: each array is lent whole, and has the room of a listing.
use Rattle.std.proofs.Common.{ℕ, sym, rules}
use lib.ListN.{length-replicate}
use Rattle.listing_text.specs.Size.{listed_bytes}
use Rattle.listing.proofs.Laws.{as_long}
use Rattle.listing.proofs.main.Goals as goal

pub slice_bounds-run-end-4 : goal.slice_bounds-run-end-4
slice_bounds-run-end-4 c = sym (length-replicate {A = ℕ} listed_bytes 0)

pub run-requires : goal.run-requires
run-requires c = (search rules, record { nodes = search rules; attributes = search rules; out = as_long listed_bytes })
