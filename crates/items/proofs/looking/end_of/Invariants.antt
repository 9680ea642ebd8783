-- `items::looking::end_of` meets its contract. Invariant: all items from the first up to k have its attribute.
use Prim.Native.Nat.{◌≤◌, ◌<◌}
use Rattle.items.proofs.RunLaws.{same_to}
use Rattle.items.proofs.looking.end_of.Given as goal

abbrev pub invariant-loop-k : goal.invariant-loop-k
invariant-loop-k l = (l.k ≤ l.whole) × (l.first < l.k) × same_to l.area l.items l.first l.k
