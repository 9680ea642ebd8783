-- `xml::chars::utf16_chars` meets its contract. Invariant: what was passed is chars (`Passed`). Measure: the bytes left before `to`.
use mathlib.Core.Bool.{true}
use Prim.Native.Nat.{◌-◌}
use Rattle.xml.specs.Inner.NameRun.{Passed}
use Rattle.xml.proofs.chars.utf16_chars.Given as goal

abbrev pub invariant-loop-i : goal.invariant-loop-i
invariant-loop-i l = Passed true l.s l.at l.i

abbrev pub decreases-loop-i : goal.decreases-loop-i
decreases-loop-i l = l.to - l.i
