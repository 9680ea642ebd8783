-- `main_activities::tests::is_enabled` meets its contract: no activity, or what its `enabled` says.
use mathlib.Core.Path.{sym, ◌∙◌}
use native.Mathlib.Omega.{arith}
use Rattle.system_types.specs.Names.{lends}
use Rattle.main_activities.specs.Activities.{tree_of}
use Rattle.main_activities.proofs.Laws.{enabled-no, enabled-yes}
use Rattle.main_activities.proofs.tests.is_enabled.Goals as goal

pub is_activity-requires : goal.is_activity-requires
is_activity-requires c =
    let p = c.requires in
    (p.0, p.1)

pub returns-then-not-is_activity : goal.returns-then-not-is_activity
returns-then-not-is_activity c =
    let a = c.args in
    let at-is-activity = c.is_activity in
    let if1 = c.if-not-is_activity in
    let w = tree_of a.h a.t.now (lends a.names.now a.area.now) a.items.now a.item_area.now a.nodes.now
    a.attributes.now a.count in
    enabled-no w a.k (sym at-is-activity.ensures ∙ if1.true)

pub has_value-requires : goal.has_value-requires
has_value-requires c =
    let p = c.requires in
    (p.0, p.1, omega arith, omega arith)

pub returns : goal.returns
returns c =
    let a = c.args in
    let at-is-activity = c.is_activity in
    let if1 = c.if-not-is_activity in
    let at-has-value = c.has_value in
    let w = tree_of a.h a.t.now (lends a.names.now a.area.now) a.items.now a.item_area.now a.nodes.now
    a.attributes.now a.count in
    enabled-yes w a.k (sym at-is-activity.ensures ∙ if1.false) at-has-value.ensures
