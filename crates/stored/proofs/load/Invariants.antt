-- `stored::load` meets its contract. Invariant: the first i words stand at the front of the places that are filled.
use Rattle.std.proofs.Common.{◌≡◌, ◌++◌, drop}
use Rattle.stored.specs.Inner.Data.{words_to}
use Rattle.stored.proofs.load.Given as goal

abbrev pub invariant-loop-i : goal.invariant-loop-i
invariant-loop-i l = l.place-items ≡ words_to l.i l.words ++ drop l.i l.initial.place-items
