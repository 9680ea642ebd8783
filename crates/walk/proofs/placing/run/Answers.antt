-- `walk::placing::run` meets its contract: each turn of its loop is one step of the reading, put away.
-- Invariant: the reading from here comes to what it came to at first, and what is known of names and of long texts holds. Measure: the cursor's steps.
-- The mathematics of a turn: proofs/Running.antt.
use mathlib.Core.Path.{refl, ◌∙◌}
use Rattle.system_types.specs.Names.{lends}
use Rattle.walk.proofs.EventCases.{asks-for}
use Rattle.walk.proofs.Running.{run-first, fit_of, run-less, run-goes, run-stops}
use Rattle.walk.proofs.placing.run.Goals as goal

pub loop-u-init : goal.loop-u-init
loop-u-init c =
    (refl, refl, (λ g. run-first _ _ _ _ _ _ _ _ _ g), c.requires.1, c.requires.2)

pub step_at-s-requires : goal.step_at-s-requires
step_at-s-requires c =
    let l = c.loop-u in
    (let now = (l.invariant.2 c.requires.0).now in (now.ready, now.within, l.invariant.3))

pub place-requires : goal.place-requires
place-requires c =
    let a = c.args in
    let l = c.loop-u in
    let s = c.step_at-s in
    let now = (l.invariant.2 c.requires.0).now in (
      asks-for a.mode a.t.now (lends a.names.now a.area.now) a.b.now a.o l.cur s.result now.ready now.within s.ensures.0,
      fit_of a.mode a.t.now (lends a.names.now a.area.now) a.b.now a.o l.nodes l.attributes l.cur l.grown now,
      l.invariant.4,
    )

pub loop-u-smaller : goal.loop-u-smaller
loop-u-smaller c =
    let a = c.args in
    let l = c.loop-u in
    let s = c.step_at-s in
    let q = c.place in
    let g = c.requires.0 in
    run-less a.mode a.t.now (lends a.names.now a.area.now) a.b.now a.o a.nodes.now a.attributes.now a.c a.tree g l.nodes l.attributes
    l.cur l.grown (l.invariant.2 g) s.result s.ensures.0 q.new.nodes q.new.attributes q.auto.nodes
    q.auto.attributes
    q.result q.ensures.0 q.ensures.1 c.in-Ok.u c.in-Ok.is

pub loop-u-preserved : goal.loop-u-preserved
loop-u-preserved c =
    let a = c.args in
    let l = c.loop-u in
    let s = c.step_at-s in
    let q = c.place in (
      q.auto.nodes ∙ l.invariant.0,
      q.auto.attributes ∙ l.invariant.1,
      λ g.
          run-goes a.mode a.t.now (lends a.names.now a.area.now) a.b.now a.o a.nodes.now a.attributes.now a.c a.tree g l.nodes
          l.attributes
          l.cur l.grown (l.invariant.2 g) s.result s.ensures.0 q.new.nodes q.new.attributes q.auto.nodes
          q.auto.attributes
          q.result q.ensures.0 q.ensures.1 c.in-Ok.u c.in-Ok.is,
      s.ensures.1,
      q.ensures.2,
    )

pub returns-in-Err : goal.returns-in-Err
returns-in-Err c =
    let a = c.args in
    let l = c.loop-u in
    let s = c.step_at-s in
    let q = c.place in (
      λ g.
          run-stops a.mode a.t.now (lends a.names.now a.area.now) a.b.now a.o a.nodes.now a.attributes.now a.c a.tree g l.nodes
          l.attributes
          l.cur l.grown (l.invariant.2 g) s.result s.ensures.0 q.new.nodes q.new.attributes q.auto.nodes
          q.auto.attributes
          q.result q.ensures.0 q.ensures.1 c.in-Err.stop c.in-Err.is,
      s.ensures.1,
      q.ensures.2,
    )
