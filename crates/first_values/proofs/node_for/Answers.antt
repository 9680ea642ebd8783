-- `first_values::node_for` meets its contract: the last node for the same tag (`node-repeats`), else the first of the tag.
use Rattle.system_types.specs.Names.{lends}
use Rattle.first_values.specs.Inner.Known.{finds_in}
use Rattle.first_values.proofs.Laws.{node-repeats}
use Rattle.first_values.proofs.node_for.Goals as goal

pub returns-then-repeats_tag : goal.returns-then-repeats_tag
returns-then-repeats_tag c =
    let s = c in
    let a = s.args in
    let find = finds_in a.h a.t.now (lends a.names.now a.area.now) a.nodes.now a.node_count in
    node-repeats find a.pairs.now a.pair_area.now a.k a.last s.requires.3 (c.repeats_tag.ensures c.if-repeats_tag.true)

pub find_node-requires : goal.find_node-requires
find_node-requires c =
    let s = c in (s.requires.0, s.requires.1)

pub returns : goal.returns
returns c = rw (← c.tag_at.ensures) c.find_node.ensures
