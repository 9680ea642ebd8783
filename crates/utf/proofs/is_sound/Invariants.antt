-- `utf::is_sound` meets its contract. Invariant: what was passed is sound (`Ran`). Measure: the bytes left.
use Prim.Native.Nat.{◌-◌}
use lib.ListN.{length}
use Rattle.utf.specs.Inner.StepRuns.{Ran}
use Rattle.utf.proofs.is_sound.Given as goal

abbrev pub invariant-loop-at : goal.invariant-loop-at
invariant-loop-at l = Ran l.utf16 l.s 0 l.at

abbrev pub decreases-loop-at : goal.decreases-loop-at
decreases-loop-at l = length l.s - l.at
