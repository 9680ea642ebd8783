-- `main_activities::scan_application` meets its contract: each child in turn, up to the first record that is no longer inside.
-- Invariant: the names of those before k stand in the list, which keeps its length. Measure: the nodes left.
use mathlib.Core.Path.{◌≡◌}
use Rattle.system_types.specs.Names.{lends}
use lib.ListN.{length}
use Prim.Native.Nat.{◌-◌}
use Rattle.main_activities.specs.Activities.{tree_of}
use Rattle.main_activities.proofs.Lists.{Listing}
use Rattle.main_activities.proofs.scan_application.Given as goal

abbrev pub invariant-loop-k : goal.invariant-loop-k
invariant-loop-k l = Listing
    (tree_of l.h l.t (lends l.names l.area) l.items l.item_area l.nodes l.attributes l.count) l.p l.k l.initial.list l.n l.list l.found × (length l.list ≡ length l.initial.list)

abbrev pub decreases-loop-k : goal.decreases-loop-k
decreases-loop-k l = l.count - l.k
