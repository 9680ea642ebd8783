-- `xml::blocks::blocks_end` meets its contract. Invariant: what was passed is chars, and sound (`Seen`). Measure: the bytes left.
use Prim.Native.Nat.{◌-◌, ◌≤◌}
use lib.ListN.{length}
use Rattle.xml.specs.Inner.NameRun.{Seen}
use Rattle.xml.proofs.blocks.blocks_end.Given as goal

abbrev pub invariant-loop-i : goal.invariant-loop-i
invariant-loop-i l = record { seen : Seen l.utf16 l.s l.at l.i; within : l.i ≤ length l.s }

abbrev pub decreases-loop-i : goal.decreases-loop-i
decreases-loop-i l = length l.s - l.i
