-- `items::taking::put_flags` meets its contract. Invariant: `Going`, what the items from k on still do.
use Prim.Native.Nat.{◌-◌}
use mathlib.Core.Path.{◌≡◌}
use lib.ListN.{length}
use Rattle.items.specs.Items.{items_from}
use Rattle.items.proofs.TurnLaws.{Going}
use Rattle.items.proofs.taking.put_flags.Given as goal

abbrev pub invariant-loop-k : goal.invariant-loop-k
invariant-loop-k l = (length l.out ≡ length l.initial.out) × Going l.area l.flags
    (items_from l.items l.first (l.end - l.first)) l.p l.initial.out (items_from l.items l.k (l.end - l.k)) l.st l.out
