-- `utf::bytes_len` meets its contract. Invariant: what is counted and what is left make the whole (`Counted`). Measure: the bytes left.
use Prim.Native.Nat.{◌-◌}
use lib.ListN.{length}
use Rattle.utf.proofs.Filled.{Counted}
use Rattle.utf.proofs.bytes_len.Given as goal

abbrev pub invariant-loop-at : goal.invariant-loop-at
invariant-loop-at l = Counted l.utf16 l.s l.at l.n

abbrev pub decreases-loop-at : goal.decreases-loop-at
decreases-loop-at l = length l.s - l.at
