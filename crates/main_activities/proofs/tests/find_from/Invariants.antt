-- `main_activities::tests::find_from` meets its contract: it stops at the first attribute with the name.
-- Invariant: none before i has it.
use mathlib.Core.Path.{◌≡◌}
use Rattle.system_types.specs.Names.{lends}
use Prim.Native.Nat.{◌+◌, ◌-◌}
use Rattle.main_activities.specs.Activities.{tree_of, attribute_from}
use Rattle.main_activities.proofs.tests.find_from.Given as goal

abbrev pub invariant-loop-i : goal.invariant-loop-i
invariant-loop-i l =
    attribute_from (tree_of l.h l.t (lends l.names l.area) l.items l.item_area l.nodes l.attributes l.count) l.name l.first l.number ≡ attribute_from
    (tree_of l.h l.t (lends l.names l.area) l.items l.item_area l.nodes l.attributes l.count) l.name (l.first + l.i) (l.number - l.i)
