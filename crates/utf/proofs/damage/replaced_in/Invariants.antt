-- `utf::damage::replaced_in` meets its contract. Invariant: what is counted and what is left make the whole (`Tallied`). Measure: the bytes left.
use Prim.Native.Nat.{◌-◌}
use lib.ListN.{length}
use Rattle.utf.proofs.BadSteps.{Tallied}
use Rattle.utf.proofs.damage.replaced_in.Given as goal

abbrev pub invariant-loop-at : goal.invariant-loop-at
invariant-loop-at l = Tallied l.s l.at l.n

abbrev pub decreases-loop-at : goal.decreases-loop-at
decreases-loop-at l = length l.s - l.at
