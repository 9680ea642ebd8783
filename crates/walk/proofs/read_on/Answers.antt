-- `walk::read_on` meets its contract: each way out of its loop keeps the outcome of the whole reading.
-- Invariant: the outcome is that of the reading from here, and what is known of names and of long texts holds. Measure: the cursor's steps.
-- The mathematics of a turn: proofs/Advancing.antt, PastCap.antt, Finishing.antt, Knowing.antt.
use native.Mathlib.Omega.{arith}
use mathlib.Core.Path.{refl, sym, ◌∙◌}
use borrow.Author.Tests.{ltb-true, ltb-false}
use Rattle.anomaly.proofs.Laws.{kind_index-lt}
use Rattle.system_types.specs.Names.{lends}
use Rattle.walk.proofs.Advancing.{read_first, read-full, due-less, due-within, read_past, read-due}
use Rattle.walk.proofs.PastCap.{read-passed}
use Rattle.walk.proofs.Finishing.{read-keepable, read_done}
use Rattle.walk.proofs.Knowing.{knows-refused, knows-finished, knows-noted}
use Rattle.walk.proofs.read_on.Goals as goal

pub loop-x-init : goal.loop-x-init
loop-x-init c =
    let k = c.requires.2 in
    let e = c.requires.1 in
    (refl, refl, refl, refl, (λ g. read_first _ _ _ _ _ g e), k.looks e, k.texts e)

pub run_in-halt-requires : goal.run_in-halt-requires
run_in-halt-requires c =
    let l = c.loop-x in
    ((l.invariant.4 c.requires.0).now, l.invariant.5, l.invariant.6)

pub returns-in-Full : goal.returns-in-Full
returns-in-Full c =
    let a = c.args in
    let l = c.loop-x in
    let q = c.run_in-halt in
    let r = c.refuse in (
      (λ g.
          read-full a.file.now (lends a.names.now a.area.now) a.nodes.now a.attributes.now a.st g l.nodes l.attributes l.cur
          l.tree (l.invariant.4 g)
          q.result q.new.nodes q.new.attributes q.auto.nodes q.auto.attributes q.ensures.0
          c.in-Full.x c.in-Full.is r.result r.new.nodes r.new.attributes r.ensures),
      knows-refused a.file.now (lends a.names.now a.area.now) _ _ q.ensures.1.room q.ensures.2.room _ _ _ _ _ _ _ r.ensures,
    )

pub finish-requires : goal.finish-requires
finish-requires c =
    let a = c.args in
    let l = c.loop-x in
    let q = c.run_in-halt in
    let g = c.requires.0 in
    read-keepable a.file.now (lends a.names.now a.area.now) a.nodes.now a.attributes.now a.st g l.nodes l.attributes l.cur
    l.tree (l.invariant.4 g)
    q.result q.new.nodes q.new.attributes q.auto.nodes q.auto.attributes q.ensures.0
    c.in-Finished.is

pub returns-in-Finished : goal.returns-in-Finished
returns-in-Finished c =
    let a = c.args in
    let l = c.loop-x in
    let q = c.run_in-halt in
    let r = c.finish in (
      (λ g.
          read_done a.file.now (lends a.names.now a.area.now) a.nodes.now a.attributes.now a.st g l.nodes l.attributes l.cur
          l.tree (l.invariant.4 g)
          q.result q.new.nodes q.new.attributes q.auto.nodes q.auto.attributes q.ensures.0
          c.in-Finished.is r.result r.new.nodes r.new.attributes r.ensures),
      knows-finished a.file.now (lends a.names.now a.area.now) _ _ q.ensures.1.room q.ensures.2.room _ _ _ _ _ _ _ r.ensures,
    )

pub is_due-requires : goal.is_due-requires
is_due-requires c = omega (arith, c.kind_index.ensures, kind_index-lt c.in-Due.x)

pub note_due-requires : goal.note_due-requires
note_due-requires c =
    ltb-true _ _ (sym (rw c.kind_index.ensures at c.is_due.ensures) ∙ c.if-is_due.true)

pub returns-then-is_due : goal.returns-then-is_due
returns-then-is_due c =
    let a = c.args in
    let l = c.loop-x in
    let q = c.run_in-halt in
    let r = c.note_due in
    let under = ltb-true _ _ (sym (rw c.kind_index.ensures at c.is_due.ensures) ∙ c.if-is_due.true) in (
      (λ g.
          read-due a.file.now (lends a.names.now a.area.now) a.nodes.now a.attributes.now a.st g l.nodes l.attributes l.cur l.tree
          (l.invariant.4 g)
          q.result q.new.nodes q.new.attributes q.auto.nodes q.auto.attributes q.ensures.0
          c.in-Due.x c.in-Due.is under r.result r.new.nodes r.new.attributes r.ensures),
      knows-noted a.file.now (lends a.names.now a.area.now) _ _ q.ensures.1.room q.ensures.2.room _ _ _ _ _ _ _ _ _ r.ensures q.ensures.1 q.ensures.2,
    )

pub pass_in-cur-requires : goal.pass_in-cur-requires
pass_in-cur-requires c =
    let a = c.args in
    let l = c.loop-x in
    let q = c.run_in-halt in
    let g = c.requires.0 in
    due-within a.file.now (lends a.names.now a.area.now) a.nodes.now a.attributes.now a.st g l.nodes l.attributes l.cur l.tree
    (l.invariant.4 g)
    q.result q.new.nodes q.new.attributes q.auto.nodes q.auto.attributes q.ensures.0
    c.in-Due.x c.in-Due.is

pub loop-x-smaller : goal.loop-x-smaller
loop-x-smaller c =
    let a = c.args in
    let l = c.loop-x in
    let q = c.run_in-halt in
    let g = c.requires.0 in
    let less = due-less a.file.now (lends a.names.now a.area.now) a.nodes.now a.attributes.now a.st g l.nodes l.attributes l.cur
    l.tree (l.invariant.4 g)
    q.result q.new.nodes q.new.attributes q.auto.nodes q.auto.attributes q.ensures.0
    c.in-Due.x c.in-Due.is in
    omega (arith, less, c.pass_in-cur.ensures.low)

pub loop-x-preserved : goal.loop-x-preserved
loop-x-preserved c =
    let a = c.args in
    let l = c.loop-x in
    let q = c.run_in-halt in
    let p = c.pass_in-cur in
    let past = ltb-false _ _ (sym (rw c.kind_index.ensures at c.is_due.ensures) ∙ c.if-is_due.false) in (
      q.auto.nodes ∙ l.invariant.0,
      q.auto.attributes ∙ l.invariant.1,
      q.auto.memory ∙ l.invariant.2,
      q.auto.numbers ∙ l.invariant.3,
      λ g.
          read-passed a.file.now (lends a.names.now a.area.now) a.nodes.now a.attributes.now a.st g q.new.nodes
          q.new.attributes q.result.cur q.result.tree
          (read_past a.file.now (lends a.names.now a.area.now) a.nodes.now a.attributes.now a.st g l.nodes l.attributes l.cur
          l.tree (l.invariant.4 g)
          q.result q.new.nodes q.new.attributes q.auto.nodes q.auto.attributes q.ensures.0
          c.in-Due.x c.in-Due.is past) p.result p.ensures,
      q.ensures.1,
      q.ensures.2,
    )
