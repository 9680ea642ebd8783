-- `utf::sound_blocks` meets its contract. Invariant: what was passed is sound (`Ran`), and lies inside. Measure: the bytes left.
use Prim.Native.Nat.{◌-◌, ◌≤◌}
use lib.ListN.{length}
use Rattle.utf.specs.Inner.StepRuns.{Ran}
use Rattle.utf.proofs.sound_blocks.Given as goal

abbrev pub invariant-loop-i : goal.invariant-loop-i
invariant-loop-i l = Ran l.utf16 l.s l.at l.i × (l.i ≤ length l.s)

abbrev pub decreases-loop-i : goal.decreases-loop-i
decreases-loop-i l = length l.s - l.i
