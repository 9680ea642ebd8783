-- `many_texts::put_values` meets its contract. Invariant: the first k texts and answers (`Done`), and what is known.
use Prim.Native.Nat.{◌≤◌}
use lib.ListN.{length}
use Rattle.system_types.specs.Names.{lends}
use Rattle.many_texts.specs.Many.{most_count}
use Rattle.many_texts.specs.Inner.Going.{Done, record_value}
use Rattle.many_texts.specs.Inner.Known.{Knows}
use Rattle.many_texts.proofs.put_values.Given as goal

abbrev pub invariant-loop-k : goal.invariant-loop-k
invariant-loop-k l = (length l.initial.out ≤ most_count)
    × Done (record_value l.h l.t (lends l.names l.area) l.items l.item_area l.attributes) (length l.initial.out) (length l.initial.answers) l.k l.at l.out l.answers
    × Knows l.h l.t (lends l.names l.area) l.items l.item_area l.starts l.ends
