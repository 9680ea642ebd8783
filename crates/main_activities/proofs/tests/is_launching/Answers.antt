-- `main_activities::tests::is_launching` meets its contract: one text, or the other.
use native.Mathlib.Omega.{arith}
use Rattle.system_types.specs.Names.{lends}
use Rattle.main_activities.specs.Activities.{tree_of, says, name_name, info_text}
use Rattle.main_activities.proofs.Laws.{or_left, or_right}
use Rattle.main_activities.proofs.tests.is_launching.Goals as goal

pub has_value-requires : goal.has_value-requires
has_value-requires c =
    let p = c.requires in
    (p.0, p.1, omega arith, omega arith)

pub returns-then-has_value : goal.returns-then-has_value
returns-then-has_value c =
    let a = c.args in
    let at-has-value = c.has_value in
    let if1 = c.if-has_value in
    let w = tree_of a.h a.t.now (lends a.names.now a.area.now) a.items.now a.item_area.now a.nodes.now
    a.attributes.now a.count in
    or_left (says w name_name info_text a.k) at-has-value.ensures if1.true

pub has_value-requires-2 : goal.has_value-requires-2
has_value-requires-2 c =
    let p = c.requires in
    (p.0, p.1, omega arith, omega arith)

pub returns : goal.returns
returns c =
    let at-has-value = c.has_value in
    let if1 = c.if-has_value in
    let at-has-value2 = c.has_value-2 in
    or_right at-has-value.ensures if1.false at-has-value2.ensures
