-- `main_activities::scan_activity` meets its contract: each child in turn, up to a filter that has both or the first record that is no longer inside.
-- Invariant: no child before k is such a filter. Measure: the nodes left.
use native.Mathlib.Omega.{arith}
use Rattle.system_types.specs.Names.{lends}
use Rattle.main_activities.specs.Activities.{tree_of}
use Rattle.main_activities.proofs.Laws.{rest_out, rest_end, seeking-start, seeking-out, seeking-found, seeking-next}
use Rattle.main_activities.proofs.scan_activity.Goals as goal

pub overflow_add-k : goal.overflow_add-k
overflow_add-k c =
    let p = c.requires in
    omega (arith, p.1)

pub loop-k-init : goal.loop-k-init
loop-k-init c =
    let a = c.args in
    let p = c.requires in
    let w = tree_of a.h a.t.now (lends a.names.now a.area.now) a.items.now a.item_area.now a.nodes.now
    a.attributes.now a.count in
    seeking-start w a.a p.1

pub parent_at-requires : goal.parent_at-requires
parent_at-requires c =
    let p = c.requires in
    let test = c.loop-k-test in
    omega (arith, p.0.fits, test.true)

pub returns-then-parent_at-a : goal.returns-then-parent_at-a
returns-then-parent_at-a c =
    let a = c.args in
    let test = c.loop-k-test in
    let at-parent-at = c.parent_at in
    let if1 = c.if-parent_at-a in
    let l = c.loop-k in
    let w = tree_of a.h a.t.now (lends a.names.now a.area.now) a.items.now a.item_area.now a.nodes.now
    a.attributes.now a.count in
    seeking-out w a.a (rest_out w a.a l.k test.true (omega (arith, at-parent-at.ensures, if1.true))) l.invariant

pub filter_child-s-requires : goal.filter_child-s-requires
filter_child-s-requires c =
    let p = c.requires in
    let test = c.loop-k-test in
    (p.0, test.true)

pub returns-then-s : goal.returns-then-s
returns-then-s c =
    let a = c.args in
    let test = c.loop-k-test in
    let at-parent-at = c.parent_at in
    let if1 = c.if-parent_at-a in
    let l = c.loop-k in
    let at-filter-child = c.filter_child-s in
    let if2 = c.if-s in
    let w = tree_of a.h a.t.now (lends a.names.now a.area.now) a.items.now a.item_area.now a.nodes.now
    a.attributes.now a.count in
    seeking-found w a.a test.true (omega (arith, at-parent-at.ensures, if1.false)) l.invariant at-filter-child.ensures.0
    at-filter-child.ensures.1 if2.true

pub loop-k-smaller : goal.loop-k-smaller
loop-k-smaller c =
    let test = c.loop-k-test in
    let at-filter-child = c.filter_child-s in
    omega (arith, test.true, at-filter-child.ensures.0.later, at-filter-child.ensures.0.fits)

pub loop-k-preserved : goal.loop-k-preserved
loop-k-preserved c =
    let a = c.args in
    let test = c.loop-k-test in
    let at-parent-at = c.parent_at in
    let if1 = c.if-parent_at-a in
    let l = c.loop-k in
    let at-filter-child = c.filter_child-s in
    let if2 = c.if-s in
    let w = tree_of a.h a.t.now (lends a.names.now a.area.now) a.items.now a.item_area.now a.nodes.now
    a.attributes.now a.count in
    seeking-next w a.a test.true (omega (arith, at-parent-at.ensures, if1.false)) l.invariant at-filter-child.ensures.0
    at-filter-child.ensures.1 if2.false

pub returns : goal.returns
returns c =
    let a = c.args in
    let test = c.loop-k-test in
    let l = c.loop-k in
    let w = tree_of a.h a.t.now (lends a.names.now a.area.now) a.items.now a.item_area.now a.nodes.now
    a.attributes.now a.count in
    seeking-out w a.a (rest_end w a.a l.k test.false) l.invariant
