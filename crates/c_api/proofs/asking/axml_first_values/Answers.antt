-- `c_api::asking::axml_first_values` meets its contract: the answer of `first_values`, in numbers, and its list.
use Rattle.system_types.specs.Names.{lends}
use Rattle.c_api.proofs.Asked.{asks-of-many}
use Rattle.c_api.proofs.asking.axml_first_values.Goals as goal

pub returns : goal.returns
returns c =
    let a = c.args in
    asks-of-many a.file.now (lends a.names.now a.area.now) a.nodes.now a.attributes.now a.pairs.now a.pair_area.now
    a.answers.now a.node_count a.attribute_count c.first_values-answer.ensures c.pair_numbers.ensures
    c.pairs_answer_of.ensures
