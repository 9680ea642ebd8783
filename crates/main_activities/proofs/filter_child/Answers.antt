-- `main_activities::filter_child` meets its contract: no child, none of that sort, or what its own children say.
use mathlib.Core.Path.{sym, ◌∙◌}
use native.Mathlib.Omega.{arith}
use Rattle.system_types.specs.Names.{lends}
use Rattle.main_activities.specs.Activities.{tree_of, is_filter}
use Rattle.main_activities.proofs.Laws.{within-start, child-other, child-here, filter-no, filter-yes}
use Rattle.main_activities.proofs.filter_child.Goals as goal

pub parent_at-requires : goal.parent_at-requires
parent_at-requires c =
    let p = c.requires in
    omega (arith, p.0.fits, p.1)

pub returns-then-parent_at-a : goal.returns-then-parent_at-a
returns-then-parent_at-a c =
    let a = c.args in
    let p = c.requires in
    let if1 = c.if-parent_at-a in
    let at-parent-at = c.parent_at in
    let w = tree_of a.h a.t.now (lends a.names.now a.area.now) a.items.now a.item_area.now a.nodes.now
    a.attributes.now a.count in
    (within-start w a.k p.1, child-other w a.a a.k (is_filter w a.k) (λ e. if1.true (at-parent-at.ensures ∙ e)))

pub has_tag-requires : goal.has_tag-requires
has_tag-requires c =
    let p = c.requires in
    (p.0.asks, omega (arith, p.0.fits, p.1))

pub overflow_add-result-then-not-has_tag : goal.overflow_add-result-then-not-has_tag
overflow_add-result-then-not-has_tag c =
    let p = c.requires in
    omega (arith, p.1)

pub returns-then-not-has_tag : goal.returns-then-not-has_tag
returns-then-not-has_tag c =
    let a = c.args in
    let at-has-tag = c.has_tag in
    let if2 = c.if-not-has_tag in
    let p = c.requires in
    let at-parent-at = c.parent_at in
    let if1 = c.if-parent_at-a in
    let w = tree_of a.h a.t.now (lends a.names.now a.area.now) a.items.now a.item_area.now a.nodes.now
    a.attributes.now a.count in
    let tag = sym at-has-tag.ensures ∙ if2.true in
    (within-start w a.k p.1, child-here w a.a a.k (is_filter w a.k) (sym at-parent-at.ensures ∙ if1.false) (filter-no w a.k tag))

pub scan_filter-requires : goal.scan_filter-requires
scan_filter-requires c =
    let p = c.requires in
    (p.0, p.1)

pub returns : goal.returns
returns c =
    let a = c.args in
    let at-has-tag = c.has_tag in
    let if2 = c.if-not-has_tag in
    let at-scan-filter = c.scan_filter in
    let at-parent-at = c.parent_at in
    let if1 = c.if-parent_at-a in
    let w = tree_of a.h a.t.now (lends a.names.now a.area.now) a.items.now a.item_area.now a.nodes.now
    a.attributes.now a.count in
    let tag = sym at-has-tag.ensures ∙ if2.false in (
      at-scan-filter.ensures.0,
      child-here w a.a a.k (is_filter w a.k) (sym at-parent-at.ensures ∙ if1.false)
          (filter-yes w a.k tag at-scan-filter.ensures.1),
    )
