-- `main_activities::scan_application` meets its contract: each child in turn, up to the first record that is no longer inside.
-- Invariant: the names of those before k stand in the list, which keeps its length. Measure: the nodes left.
use mathlib.Core.Path.{refl, ◌∙◌}
use native.Mathlib.Omega.{arith}
use Rattle.system_types.specs.Names.{lends}
use Rattle.main_activities.specs.Activities.{tree_of}
use Rattle.main_activities.proofs.Laws.{rest_out, rest_end}
use Rattle.main_activities.proofs.Lists.{listing_start, listing_step, listing-end}
use Rattle.main_activities.proofs.scan_application.Goals as goal

pub overflow_add-k : goal.overflow_add-k
overflow_add-k c =
    let p = c.requires in
    omega (arith, p.1)

pub loop-k-init : goal.loop-k-init
loop-k-init c =
    let a = c.args in
    let p = c.requires in
    let w = tree_of a.h a.t.now (lends a.names.now a.area.now) a.items.now a.item_area.now a.nodes.now
    a.attributes.now a.count in
    (listing_start w a.p p.1, refl)

pub parent_at-requires : goal.parent_at-requires
parent_at-requires c =
    let p = c.requires in
    let test = c.loop-k-test in
    omega (arith, p.0.fits, test.true)

pub shape_of-list-then-parent_at-p : goal.shape_of-list-then-parent_at-p
shape_of-list-then-parent_at-p c =
    let l = c.loop-k in
    l.invariant.1

pub returns-then-parent_at-p : goal.returns-then-parent_at-p
returns-then-parent_at-p c =
    let a = c.args in
    let test = c.loop-k-test in
    let at-parent-at = c.parent_at in
    let if1 = c.if-parent_at-p in
    let l = c.loop-k in
    let w = tree_of a.h a.t.now (lends a.names.now a.area.now) a.items.now a.item_area.now a.nodes.now
    a.attributes.now a.count in
    listing-end w a.p l.k (rest_out w a.p l.k test.true (omega (arith, at-parent-at.ensures, if1.true))) l.invariant.0

pub activity_child-s-requires : goal.activity_child-s-requires
activity_child-s-requires c =
    let p = c.requires in
    let test = c.loop-k-test in
    (p.0, test.true)

pub put_given-found-requires : goal.put_given-found-requires
put_given-found-requires c =
    let p = c.requires in
    let test = c.loop-k-test in
    (p.0, test.true)

pub loop-k-smaller : goal.loop-k-smaller
loop-k-smaller c =
    let test = c.loop-k-test in
    let at-activity-child = c.activity_child-s in
    omega (arith, test.true, at-activity-child.ensures.0.later, at-activity-child.ensures.0.fits)

pub loop-k-preserved : goal.loop-k-preserved
loop-k-preserved c =
    let a = c.args in
    let test = c.loop-k-test in
    let at-parent-at = c.parent_at in
    let if1 = c.if-parent_at-p in
    let at-activity-child = c.activity_child-s in
    let at-put-given = c.put_given-found in
    let l = c.loop-k in
    let w = tree_of a.h a.t.now (lends a.names.now a.area.now) a.items.now a.item_area.now a.nodes.now
    a.attributes.now a.count in (
      listing_step w a.p l.k l.list l.found _ _ test.true (omega (arith, at-parent-at.ensures, if1.false))
          at-activity-child.ensures.0 at-activity-child.ensures.1
          at-put-given.ensures l.invariant.0,
      at-put-given.auto.list ∙ l.invariant.1,
    )

pub shape_of-list : goal.shape_of-list
shape_of-list c =
    let l = c.loop-k in
    l.invariant.1

pub returns : goal.returns
returns c =
    let a = c.args in
    let test = c.loop-k-test in
    let l = c.loop-k in
    let w = tree_of a.h a.t.now (lends a.names.now a.area.now) a.items.now a.item_area.now a.nodes.now
    a.attributes.now a.count in
    listing-end w a.p l.k (rest_end w a.p l.k test.false) l.invariant.0
