-- `first_values::pairs::read_pairs` meets its contract: it stops at the first pair that does not lie inside.
-- Invariant: the pairs from k on say what all of them say.
use Prim.Native.Nat.{◌-◌, ◌*◌, ◌/◌, ◌%◌}
use mathlib.Core.Path.{◌≡◌}
use lib.ListN.{length, drop}
use Rattle.records.specs.Words.{pair_width}
use Rattle.first_values.specs.Pairs.{pairs_from}
use Rattle.first_values.proofs.pairs.read_pairs.Given as goal

abbrev pub invariant-loop-k : goal.invariant-loop-k
invariant-loop-k l = (l.n ≡ length l.pairs / pair_width)
    × (pairs_from l.area (length l.pairs % pair_width) 0 l.n l.pairs ≡ pairs_from l.area (length l.pairs % pair_width) l.k (l.n - l.k) (drop (pair_width * l.k) l.pairs))
