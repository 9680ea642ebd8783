-- `main_activities::list_all` meets its contract: each application in turn (`all-step`).
-- Invariant: the names of those before k stand in the list, which keeps its length. Measure: the nodes left.
use mathlib.Core.Path.{◌≡◌}
use Rattle.system_types.specs.Names.{lends}
use lib.ListN.{length}
use Prim.Native.Nat.{◌-◌}
use Rattle.main_activities.specs.Activities.{tree_of}
use Rattle.main_activities.proofs.Lists.{AllListed}
use Rattle.main_activities.proofs.list_all.Given as goal

abbrev pub invariant-loop-k : goal.invariant-loop-k
invariant-loop-k l = AllListed
    (tree_of l.h l.t (lends l.names l.area) l.items l.item_area l.nodes l.attributes l.count) l.k l.list l.found × (length l.list ≡ length l.initial.list)

abbrev pub decreases-loop-k : goal.decreases-loop-k
decreases-loop-k l = l.count - l.k
