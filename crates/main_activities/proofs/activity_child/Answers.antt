-- `main_activities::activity_child` meets its contract: no child, none of that sort, or what its own children say.
use mathlib.Core.Path.{sym, ◌∙◌}
use native.Mathlib.Omega.{arith}
use Rattle.system_types.specs.Names.{lends}
use Rattle.main_activities.specs.Activities.{tree_of, starts}
use Rattle.main_activities.proofs.Laws.{within-start, child-other, child-here, starts-no, starts-yes}
use Rattle.main_activities.proofs.activity_child.Goals as goal

pub parent_at-requires : goal.parent_at-requires
parent_at-requires c =
    let p = c.requires in
    omega (arith, p.0.fits, p.1)

pub overflow_add-result : goal.overflow_add-result
overflow_add-result c =
    let p = c.requires in
    omega (arith, p.1)

pub returns-then-parent_at-p : goal.returns-then-parent_at-p
returns-then-parent_at-p c =
    let a = c.args in
    let p = c.requires in
    let if1 = c.if-parent_at-p in
    let at-parent-at = c.parent_at in
    let w = tree_of a.h a.t.now (lends a.names.now a.area.now) a.items.now a.item_area.now a.nodes.now
    a.attributes.now a.count in
    (within-start w a.k p.1, child-other w a.p a.k (starts w a.k) (λ e. if1.true (at-parent-at.ensures ∙ e)))

pub is_enabled-requires : goal.is_enabled-requires
is_enabled-requires c =
    let p = c.requires in
    (p.0, p.1)

pub overflow_add-result-then-not-is_enabled : goal.overflow_add-result-then-not-is_enabled
overflow_add-result-then-not-is_enabled c =
    let p = c.requires in
    omega (arith, p.1)

pub returns-then-not-is_enabled : goal.returns-then-not-is_enabled
returns-then-not-is_enabled c =
    let a = c.args in
    let at-is-enabled = c.is_enabled in
    let if2 = c.if-not-is_enabled in
    let p = c.requires in
    let at-parent-at = c.parent_at in
    let if1 = c.if-parent_at-p in
    let w = tree_of a.h a.t.now (lends a.names.now a.area.now) a.items.now a.item_area.now a.nodes.now
    a.attributes.now a.count in
    let tag = sym at-is-enabled.ensures ∙ if2.true in
    (within-start w a.k p.1, child-here w a.p a.k (starts w a.k) (sym at-parent-at.ensures ∙ if1.false) (starts-no w a.k tag))

pub scan_activity-requires : goal.scan_activity-requires
scan_activity-requires c =
    let p = c.requires in
    (p.0, p.1)

pub returns : goal.returns
returns c =
    let a = c.args in
    let at-is-enabled = c.is_enabled in
    let if2 = c.if-not-is_enabled in
    let at-scan-activity = c.scan_activity in
    let at-parent-at = c.parent_at in
    let if1 = c.if-parent_at-p in
    let w = tree_of a.h a.t.now (lends a.names.now a.area.now) a.items.now a.item_area.now a.nodes.now
    a.attributes.now a.count in
    let tag = sym at-is-enabled.ensures ∙ if2.false in (
      at-scan-activity.ensures.0,
      child-here w a.p a.k (starts w a.k) (sym at-parent-at.ensures ∙ if1.false)
          (starts-yes w a.k tag at-scan-activity.ensures.1),
    )
