-- `xml::valid_name` meets its contract. Invariant: what is left are chars where the text is a name. Measure: the bytes left.
use mathlib.Core.Path.{◌≡◌}
use Prim.Native.Nat.{◌-◌}
use lib.ListN.{length, drop}
use Rattle.xml.specs.NCName.{valid_name}
use Rattle.xml.specs.Inner.NameRun.{chars_in}
use Rattle.xml.proofs.valid_name.Given as goal

abbrev pub invariant-loop-at : goal.invariant-loop-at
invariant-loop-at l = chars_in l.utf16 (drop l.at l.s) ≡ valid_name l.utf16 l.s

abbrev pub decreases-loop-at : goal.decreases-loop-at
decreases-loop-at l = length l.s - l.at
