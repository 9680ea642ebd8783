-- `utf::utf8_run` meets its contract. Invariant: what was passed is sound (`Ran`).
use Prim.Native.Nat.{◌≤◌, max}
use Rattle.utf.specs.Inner.StepRuns.{Ran}
use mathlib.Core.Bool.{false}
use Rattle.utf.proofs.utf8_run.Given as goal

abbrev pub invariant-loop-i : goal.invariant-loop-i
invariant-loop-i l = Ran false l.s l.at l.i × (l.i ≤ max l.at l.end)
