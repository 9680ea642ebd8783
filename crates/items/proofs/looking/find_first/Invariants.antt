-- `items::looking::find_first` meets its contract. Invariant: no item before k is of the name.
use Rattle.items.proofs.RunLaws.{named_from}
use Rattle.items.proofs.looking.find_first.Given as goal

abbrev pub invariant-loop-k : goal.invariant-loop-k
invariant-loop-k l = named_from l.area l.name l.items l.k
