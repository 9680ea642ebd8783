-- `relist::main` is safe: each array is lent whole.
use Rattle.std.proofs.Common.{ℕ, ◌+◌, sym, rules}
use lib.ListN.{length-replicate}
use Rattle.listing_text.specs.Size.{listed_bytes}
use Rattle.relist.proofs.Judging.{as_long}
use Rattle.relist.proofs.main.Goals as goal

pub slice_bounds-run-end : goal.slice_bounds-run-end
slice_bounds-run-end c = sym (length-replicate {A = ℕ} _ 0)

pub slice_bounds-run-end-5 : goal.slice_bounds-run-end-5
slice_bounds-run-end-5 c = sym (length-replicate {A = ℕ} _ 0)

pub run-requires : goal.run-requires
run-requires c = (search rules, length-replicate {A = ℕ} (listed_bytes + 1) 0, as_long (listed_bytes + 1))
