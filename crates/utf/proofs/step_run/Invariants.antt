-- `utf::step_run` meets its contract. Invariant: what was passed is sound (`Ran`). Measure: the bytes left before `end`.
use Prim.Native.Nat.{◌-◌}
use Rattle.utf.specs.Inner.StepRuns.{Ran}
use Rattle.utf.proofs.step_run.Given as goal

abbrev pub invariant-loop-i : goal.invariant-loop-i
invariant-loop-i l = Ran l.utf16 l.s l.at l.i

abbrev pub decreases-loop-i : goal.decreases-loop-i
decreases-loop-i l = l.end - l.i
