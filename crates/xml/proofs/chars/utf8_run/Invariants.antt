-- `xml::chars::utf8_run` meets its contract. Invariant: what was passed is chars, and sound (`Seen`). Measure: the bytes left before `to`.
use Prim.Native.Nat.{◌-◌}
use mathlib.Core.Bool.{false}
use Rattle.xml.specs.Inner.NameRun.{Seen}
use Rattle.xml.proofs.chars.utf8_run.Given as goal

abbrev pub invariant-loop-i : goal.invariant-loop-i
invariant-loop-i l = Seen false l.s l.at l.i

abbrev pub decreases-loop-i : goal.decreases-loop-i
decreases-loop-i l = l.to - l.i
