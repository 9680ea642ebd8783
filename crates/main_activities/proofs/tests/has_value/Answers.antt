-- `main_activities::tests::has_value` meets its contract: the attribute that is found, or none (`saying`, `saying-none`).
use mathlib.Core.Path.{sym, ◌∙◌}
use native.Mathlib.Omega.{arith}
use Rattle.system_types.specs.Names.{lends}
use Rattle.value_text.proofs.Looking.{none_by}
use Rattle.main_activities.specs.Activities.{tree_of}
use Rattle.main_activities.proofs.Laws.{from-below, saying, saying-none}
use Rattle.main_activities.proofs.tests.has_value.Goals as goal

pub find_named-requires : goal.find_named-requires
find_named-requires c = (c.requires.0, c.requires.1)

pub attribute_at-requires : goal.attribute_at-requires
attribute_at-requires c =
    let a = c.args in
    let p = c.requires in
    let w = tree_of a.h a.t.now (lends a.names.now a.area.now) a.items.now a.item_area.now a.nodes.now
    a.attributes.now a.count in
    let q = from-below w a.name.now _ _ (sym c.find_named.ensures ∙ c.in-Some.is) in
    omega (arith, q, p.0.inside a.k p.1)

pub value_is-requires : goal.value_is-requires
value_is-requires c =
    let p = c.requires in
    (p.0.asks, p.0.good, p.2, p.3)

pub returns-in_default : goal.returns-in_default
returns-in_default c =
    let a = c.args in
    let w = tree_of a.h a.t.now (lends a.names.now a.area.now) a.items.now a.item_area.now a.nodes.now
    a.attributes.now a.count in
    saying-none w a.name.now a.expected.now a.k c.find_named.ensures (none_by c.find_named.result c.in_default.not-Some)

pub returns : goal.returns
returns c =
    let a = c.args in
    let w = tree_of a.h a.t.now (lends a.names.now a.area.now) a.items.now a.item_area.now a.nodes.now
    a.attributes.now a.count in
    saying w a.name.now a.expected.now a.k c.find_named.ensures c.in-Some.is c.attribute_at.ensures c.value_is.ensures
