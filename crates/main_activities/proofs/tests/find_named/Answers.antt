-- `main_activities::tests::find_named` meets its contract: the run of the node lies in the table.
use Rattle.system_types.specs.Names.{lends}
use Rattle.main_activities.specs.Activities.{tree_of}
use Rattle.main_activities.proofs.tests.find_named.Goals as goal

pub find_from-requires : goal.find_from-requires
find_from-requires c =
    let a = c.args in
    let p = c.requires in
    let at-node-place = c.node_place-at in
    let w = tree_of a.h a.t.now (lends a.names.now a.area.now) a.items.now a.item_area.now a.nodes.now
    a.attributes.now a.count in
    (p.0.asks, rw at-node-place.ensures (p.0.small a.k p.1), rw at-node-place.ensures (p.0.inside a.k p.1))

pub returns : goal.returns
returns c =
    let at-node-place = c.node_place-at in
    let at-find-from = c.find_from in
    rw (← at-node-place.ensures) at-find-from.ensures
