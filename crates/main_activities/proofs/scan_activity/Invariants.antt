-- `main_activities::scan_activity` meets its contract: each child in turn, up to a filter that has both or the first record that is no longer inside.
-- Invariant: no child before k is such a filter. Measure: the nodes left.
use Rattle.system_types.specs.Names.{lends}
use Prim.Native.Nat.{◌-◌}
use Rattle.main_activities.specs.Activities.{tree_of}
use Rattle.main_activities.specs.Inner.Pass.{Seeking}
use Rattle.main_activities.proofs.scan_activity.Given as goal

abbrev pub invariant-loop-k : goal.invariant-loop-k
invariant-loop-k l = Seeking
    (tree_of l.h l.t (lends l.names l.area) l.items l.item_area l.nodes l.attributes l.count) l.a l.k

abbrev pub decreases-loop-k : goal.decreases-loop-k
decreases-loop-k l = l.count - l.k
