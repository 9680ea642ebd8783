-- `utf::formed::all_formed` meets its contract. Invariant: where the least answer so far is 1, the steps up to the next char are sound.
use Rattle.utf.proofs.FormedRuns.{FormedTo}
use Rattle.utf.proofs.formed.all_formed.Given as goal

abbrev pub invariant-loop-k : goal.invariant-loop-k
invariant-loop-k l = FormedTo l.n l.s l.at l.least l.k
