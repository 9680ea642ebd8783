-- `utf::bytes_into` meets its contract. Invariant: what is written and what is left make the whole (`Written`). Measure: the bytes left.
use Prim.Native.Nat.{◌-◌}
use lib.ListN.{length}
use Rattle.utf.proofs.Filled.{Written}
use Rattle.utf.proofs.bytes_into.Given as goal

abbrev pub invariant-loop-at : goal.invariant-loop-at
invariant-loop-at l = Written l.utf16 l.s l.initial.out l.out l.at l.o

abbrev pub decreases-loop-at : goal.decreases-loop-at
decreases-loop-at l = length l.s - l.at
