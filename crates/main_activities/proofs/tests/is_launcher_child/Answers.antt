-- `main_activities::tests::is_launcher_child` meets its contract: no child, another tag, or what its name says.
use mathlib.Core.Path.{sym, ◌∙◌}
use native.Mathlib.Omega.{arith}
use Rattle.system_types.specs.Names.{lends}
use Rattle.main_activities.specs.Activities.{tree_of, is_launcher}
use Rattle.main_activities.proofs.Laws.{child-other, child-here, launcher-no, launcher-yes}
use Rattle.main_activities.proofs.tests.is_launcher_child.Goals as goal

pub parent_at-requires : goal.parent_at-requires
parent_at-requires c =
    let p = c.requires in
    omega (arith, p.0.fits, p.1)

pub returns-then-parent_at-p : goal.returns-then-parent_at-p
returns-then-parent_at-p c =
    let a = c.args in
    let if1 = c.if-parent_at-p in
    let at-parent-at = c.parent_at in
    let w = tree_of a.h a.t.now (lends a.names.now a.area.now) a.items.now a.item_area.now a.nodes.now
    a.attributes.now a.count in
    child-other w a.p a.k (is_launcher w a.k) (λ e. if1.true (at-parent-at.ensures ∙ e))

pub has_tag-requires : goal.has_tag-requires
has_tag-requires c =
    let p = c.requires in
    (p.0.asks, omega (arith, p.0.fits, p.1))

pub returns-then-not-has_tag : goal.returns-then-not-has_tag
returns-then-not-has_tag c =
    let a = c.args in
    let at-parent-at = c.parent_at in
    let if1 = c.if-parent_at-p in
    let at-has-tag = c.has_tag in
    let if2 = c.if-not-has_tag in
    let w = tree_of a.h a.t.now (lends a.names.now a.area.now) a.items.now a.item_area.now a.nodes.now
    a.attributes.now a.count in
    child-here w a.p a.k (is_launcher w a.k) (sym at-parent-at.ensures ∙ if1.false)
    (launcher-no w a.k (sym at-has-tag.ensures ∙ if2.true))

pub is_launching-requires : goal.is_launching-requires
is_launching-requires c =
    let p = c.requires in
    (p.0, p.1)

pub returns : goal.returns
returns c =
    let a = c.args in
    let at-parent-at = c.parent_at in
    let if1 = c.if-parent_at-p in
    let at-has-tag = c.has_tag in
    let if2 = c.if-not-has_tag in
    let at-is-launching = c.is_launching in
    let w = tree_of a.h a.t.now (lends a.names.now a.area.now) a.items.now a.item_area.now a.nodes.now
    a.attributes.now a.count in
    child-here w a.p a.k (is_launcher w a.k) (sym at-parent-at.ensures ∙ if1.false)
    (launcher-yes w a.k (sym at-has-tag.ensures ∙ if2.false) at-is-launching.ensures)
