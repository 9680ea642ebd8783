-- `items::values::find_value` meets its contract. Invariant: what the items from k on say is what all say.
use Prim.Native.Nat.{◌-◌}
use mathlib.Core.Path.{◌≡◌}
use Rattle.items.specs.Items.{items_from, enum_of}
use Rattle.items.proofs.values.find_value.Given as goal

abbrev pub invariant-loop-k : goal.invariant-loop-k
invariant-loop-k l = enum_of l.value (items_from l.items l.first (l.end - l.first)) ≡ enum_of l.value (items_from l.items l.k (l.end - l.k))
