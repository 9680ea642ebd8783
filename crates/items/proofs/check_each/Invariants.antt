-- `items::check_each` meets its contract. Invariant: the items from k on say what all of them say.
use Prim.Native.Nat.{◌/◌}
use mathlib.Core.Path.{◌≡◌}
use lib.ListN.{length}
use Rattle.records.specs.Words.{item_width}
use Rattle.items.specs.Items.{end_of, table_of}
use Rattle.items.proofs.Laws.{said_from}
use Rattle.items.proofs.check_each.Given as goal

abbrev pub invariant-loop-k : goal.invariant-loop-k
invariant-loop-k l = table_of l.area l.items ≡ said_from l.area l.items (end_of l.items) (length l.items / item_width) l.k
