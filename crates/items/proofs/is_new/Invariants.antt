-- `items::is_new` meets its contract. Invariant: what the items before j say is what all of them say.
use Prim.Native.Nat.{◌≤◌}
use mathlib.Core.Path.{◌≡◌}
use Rattle.items.specs.Items.{is_new}
use Rattle.items.specs.Inner.Back.{back_to}
use Rattle.items.proofs.is_new.Given as goal

abbrev pub invariant-loop-j : goal.invariant-loop-j
invariant-loop-j l = (l.j ≤ l.k) × (is_new l.area (back_to l.items l.k) l.i ≡ is_new l.area (back_to l.items l.j) l.i)
