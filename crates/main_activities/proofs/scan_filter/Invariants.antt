-- `main_activities::scan_filter` meets its contract: each child in turn, up to the first record that is no longer inside.
-- Invariant: what is known of the children before k.
use Rattle.system_types.specs.Names.{lends}
use Rattle.main_activities.specs.Activities.{tree_of}
use Rattle.main_activities.specs.Inner.Pass.{Filtering}
use Rattle.main_activities.proofs.scan_filter.Given as goal

abbrev pub invariant-loop-k : goal.invariant-loop-k
invariant-loop-k l = Filtering
    (tree_of l.h l.t (lends l.names l.area) l.items l.item_area l.nodes l.attributes l.count) l.f l.k l.main l.launcher
