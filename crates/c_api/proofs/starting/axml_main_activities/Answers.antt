-- `c_api::starting::axml_main_activities` meets its contract: the answer of `main_activities`, in numbers, and its list.
use Rattle.system_types.specs.Names.{lends}
use Rattle.c_api.proofs.Started.{asks-of-main}
use Rattle.c_api.proofs.starting.axml_main_activities.Goals as goal

pub returns : goal.returns
returns c =
    let a = c.args in
    asks-of-main a.file.now (lends a.names.now a.area.now) a.items.now a.item_area.now a.nodes.now a.attributes.now
    a.list.now a.node_count a.attribute_count c.main_activities-answer.ensures c.main_numbers.ensures
    c.main_answer_of.ensures
