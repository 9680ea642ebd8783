-- `main_activities::list_all` meets its contract: each application in turn (`all-step`).
-- Invariant: the names of those before k stand in the list, which keeps its length. Measure: the nodes left.
use mathlib.Core.Path.{refl, ◌∙◌}
use native.Mathlib.Omega.{arith}
use Rattle.system_types.specs.Names.{lends}
use Rattle.main_activities.specs.Activities.{tree_of}
use Rattle.main_activities.proofs.Laws.{rest_end}
use Rattle.main_activities.proofs.Lists.{all_start, all-step, all_end}
use Rattle.main_activities.proofs.list_all.Goals as goal

pub loop-k-init : goal.loop-k-init
loop-k-init c =
    let a = c.args in
    let w = tree_of a.h a.t.now (lends a.names.now a.area.now) a.items.now a.item_area.now a.nodes.now
    a.attributes.now a.count in
    (all_start w a.list.now, refl)

pub application_child-g-requires : goal.application_child-g-requires
application_child-g-requires c =
    let p = c.requires in
    let test = c.loop-k-test in
    (p, test.true)

pub loop-k-smaller : goal.loop-k-smaller
loop-k-smaller c =
    let test = c.loop-k-test in
    let at-application-child = c.application_child-g in
    omega (arith, test.true, at-application-child.ensures.0.later, at-application-child.ensures.0.fits)

pub loop-k-preserved : goal.loop-k-preserved
loop-k-preserved c =
    let a = c.args in
    let test = c.loop-k-test in
    let at-application-child = c.application_child-g in
    let l = c.loop-k in
    let w = tree_of a.h a.t.now (lends a.names.now a.area.now) a.items.now a.item_area.now a.nodes.now
    a.attributes.now a.count in (
      all-step w l.k l.list l.found _ _ test.true at-application-child.ensures.0 at-application-child.ensures.1 l.invariant.0,
      at-application-child.auto.list ∙ l.invariant.1,
    )

pub shape_of-list : goal.shape_of-list
shape_of-list c =
    let l = c.loop-k in
    l.invariant.1

pub returns : goal.returns
returns c =
    let a = c.args in
    let test = c.loop-k-test in
    let l = c.loop-k in
    let w = tree_of a.h a.t.now (lends a.names.now a.area.now) a.items.now a.item_area.now a.nodes.now
    a.attributes.now a.count in
    all_end w l.k (rest_end w 0 l.k test.false) l.invariant.0
