-- `xml::chars::is_seen_name` meets its contract. Invariant: what was passed is chars, and sound (`Seen`). Measure: the bytes left.
use Prim.Native.Nat.{◌-◌}
use mathlib.Core.Bool.{false}
use lib.ListN.{length}
use Rattle.xml.specs.Inner.NameRun.{Seen}
use Rattle.xml.proofs.chars.is_seen_name.Given as goal

abbrev pub invariant-loop-at : goal.invariant-loop-at
invariant-loop-at l = Seen false l.s 0 l.at

abbrev pub decreases-loop-at : goal.decreases-loop-at
decreases-loop-at l = length l.s - l.at
