-- `main_activities::application_child` meets its contract: no child of the first node, no application, or its activities.
use mathlib.Core.Path.{sym, ◌∙◌}
use native.Mathlib.Omega.{arith}
use Rattle.system_types.specs.Names.{lends}
use Rattle.main_activities.specs.Activities.{tree_of}
use Rattle.main_activities.proofs.Laws.{within-start}
use Rattle.main_activities.proofs.Lists.{child-none, child-untagged, child-application}
use Rattle.main_activities.proofs.application_child.Goals as goal

pub parent_at-requires : goal.parent_at-requires
parent_at-requires c =
    let p = c.requires in
    omega (arith, p.0.fits, p.1)

pub returns-then-parent_at-ne0 : goal.returns-then-parent_at-ne0
returns-then-parent_at-ne0 c =
    let a = c.args in
    let p = c.requires in
    let if1 = c.if-parent_at-ne0 in
    let at-parent-at = c.parent_at in
    let w = tree_of a.h a.t.now (lends a.names.now a.area.now) a.items.now a.item_area.now a.nodes.now
    a.attributes.now a.count in
    (within-start w a.k p.1, λ z after h. child-none w a.k z after (λ e. if1.true (at-parent-at.ensures ∙ e)) h)

pub has_tag-requires : goal.has_tag-requires
has_tag-requires c =
    let p = c.requires in
    (p.0.asks, omega (arith, p.0.fits, p.1))

pub overflow_add-result-then-not-has_tag : goal.overflow_add-result-then-not-has_tag
overflow_add-result-then-not-has_tag c =
    let p = c.requires in
    omega (arith, p.1)

pub returns-then-not-has_tag : goal.returns-then-not-has_tag
returns-then-not-has_tag c =
    let a = c.args in
    let at-has-tag = c.has_tag in
    let if2 = c.if-not-has_tag in
    let p = c.requires in
    let at-parent-at = c.parent_at in
    let if1 = c.if-parent_at-ne0 in
    let w = tree_of a.h a.t.now (lends a.names.now a.area.now) a.items.now a.item_area.now a.nodes.now
    a.attributes.now a.count in
    let tag = sym at-has-tag.ensures ∙ if2.true in
    (within-start w a.k p.1, λ z after h. child-untagged w a.k z after (sym at-parent-at.ensures ∙ if1.false) tag h)

pub scan_application-requires : goal.scan_application-requires
scan_application-requires c =
    let p = c.requires in
    (p.0, p.1)

pub returns : goal.returns
returns c =
    let a = c.args in
    let at-has-tag = c.has_tag in
    let if2 = c.if-not-has_tag in
    let at-scan-application = c.scan_application in
    let at-parent-at = c.parent_at in
    let if1 = c.if-parent_at-ne0 in
    let w = tree_of a.h a.t.now (lends a.names.now a.area.now) a.items.now a.item_area.now a.nodes.now
    a.attributes.now a.count in
    let tag = sym at-has-tag.ensures ∙ if2.false in (
      at-scan-application.ensures.0,
      λ z after h. at-scan-application.ensures.1 z after (child-application w a.k z after (sym at-parent-at.ensures ∙ if1.false) tag h),
    )
