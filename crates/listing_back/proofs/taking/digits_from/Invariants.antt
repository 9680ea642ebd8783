-- `listing_back::taking::digits_from` meets its contract. Invariant: the digits so far make the number so far. Measure: the bytes left.
use Prim.Native.Nat.{◌-◌}
use lib.ListN.{length}
use Rattle.listing_back.proofs.Figures.{DigitsSoFar}
use Rattle.listing_back.proofs.taking.digits_from.Given as goal

abbrev pub invariant-loop-p : goal.invariant-loop-p
invariant-loop-p l = DigitsSoFar l.text l.from l.v l.p

abbrev pub decreases-loop-p : goal.decreases-loop-p
decreases-loop-p l = length l.text - l.p
