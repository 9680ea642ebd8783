-- `listing_back::taking::take_line` meets its contract. Invariant: the bytes of the form so far have taken what was taken.
use Rattle.listing_back.proofs.Holding.{TakenSoFar}
use Rattle.listing_back.proofs.taking.take_line.Given as goal

abbrev pub invariant-loop-c : goal.invariant-loop-c
invariant-loop-c l = TakenSoFar l.text l.i l.form l.at l.initial.words l.words l.f l.c-index
