-- `utf::utf16_run` meets its contract. Invariant: the units that were passed are sound (`Ran`).
use Prim.Native.Nat.{◌+◌, ◌*◌}
use mathlib.Core.Bool.{true}
use Rattle.utf.specs.Inner.StepRuns.{Ran}
use Rattle.utf.proofs.utf16_run.Given as goal

abbrev pub invariant-loop-k : goal.invariant-loop-k
invariant-loop-k l = Ran true l.s l.at (l.at + 2 * l.k)
