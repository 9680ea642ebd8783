-- `first_value::value_in` meets its contract: the attributes of the node that is found lie in tables that fit (`run_fits`).
use Rattle.first_value.proofs.Search.{run_fits}
use Rattle.first_value.proofs.Laws.{fit_of-fits}
use Rattle.system_types.specs.Names.{lends}
use Rattle.first_value.proofs.value_in.Goals as goal

pub find_node-node-requires : goal.find_node-node-requires
find_node-node-requires c =
    let s = c in
    let a = s.args in
    (s.requires.0, (fit_of-fits a.nodes.now a.attributes.now a.node_count a.attribute_count s.requires.1).nodes)

pub value_of-requires : goal.value_of-requires
value_of-requires c =
    let s = c in
    let a = s.args in (
      s.requires.0,
      run_fits a.h a.t.now (lends a.names.now a.area.now) a.tag.now a.nodes.now a.attributes.now a.node_count a.attribute_count
          s.requires.1 c.find_node-node.ensures,
    )

pub returns : goal.returns
returns c = rw (← c.find_node-node.ensures) c.value_of.ensures
