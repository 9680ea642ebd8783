-- `utf::formed::past_inner` meets its contract. Invariant: what was passed is bytes 80 to BF (`InnerTo`).
use Rattle.utf.proofs.FormedRuns.{InnerTo}
use Rattle.utf.proofs.formed.past_inner.Given as goal

abbrev pub invariant-loop-i : goal.invariant-loop-i
invariant-loop-i l = InnerTo l.s l.at l.i
