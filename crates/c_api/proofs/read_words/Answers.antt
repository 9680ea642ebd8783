-- `c_api::read_words` meets its contract: the loop of `axml::read` over words. The mathematics: proofs/LoopInvariant.antt.
use native.Mathlib.Omega.{arith}
use mathlib.Core.Path.{sym, ◌∙◌}
use Rattle.system_types.specs.Names.{lends}
use Rattle.walk.proofs.Knowing.{knows-none}
use Rattle.c_api.proofs.LoopInvariant.{point-first, point-fits, point-slot, point-less, point-next, point-cleared, point-last}
use Rattle.c_api.proofs.read_words.Goals as goal

pub loop-st-init : goal.loop-st-init
loop-st-init c =
    let a = c.args in (
      point-first a.file.now (lends a.names.now a.area.now) a.nodes.now a.attributes.now a.notes.now a.cap a.mode _ c.begin-st.ensures,
      knows-none a.file.now (lends a.names.now a.area.now) _,
    )

pub advance_knowing-st-requires : goal.advance_knowing-st-requires
advance_knowing-st-requires c = (c.loop-st.invariant.0.good, c.loop-st.invariant.1)

pub returns-then-st : goal.returns-then-st
returns-then-st c =
    let a = c.args in
    let l = c.loop-st in
    let q = c.advance_knowing-st in
    let z = c.zero_from in
    point-last a.file.now (lends a.names.now a.area.now) a.nodes.now a.attributes.now a.notes.now a.cap a.mode
    l.nodes l.attributes l.notes l.st l.invariant.0 q.result q.new.nodes q.new.attributes q.ensures.0
    c.if-st.true z.new.words z.ensures c.answer_of.result c.answer_of.ensures

pub put_note-requires : goal.put_note-requires
put_note-requires c =
    let a = c.args in
    let l = c.loop-st in
    let q = c.advance_knowing-st in
    point-fits a.file.now (lends a.names.now a.area.now) a.nodes.now a.attributes.now a.notes.now a.cap a.mode
    l.nodes l.attributes l.notes l.st l.invariant.0 q.result q.new.nodes q.new.attributes q.ensures.0 c.if-st.false

pub overflow_mul-at : goal.overflow_mul-at
overflow_mul-at c =
    let a = c.args in
    let l = c.loop-st in
    let q = c.advance_knowing-st in
    let fits = point-fits a.file.now (lends a.names.now a.area.now) a.nodes.now a.attributes.now a.notes.now a.cap a.mode
    l.nodes l.attributes l.notes l.st l.invariant.0 q.result q.new.nodes q.new.attributes q.ensures.0 c.if-st.false in
    omega (arith, fits)

pub overflow_add-at : goal.overflow_add-at
overflow_add-at c =
    let a = c.args in
    let l = c.loop-st in
    let q = c.advance_knowing-st in
    let fits = point-fits a.file.now (lends a.names.now a.area.now) a.nodes.now a.attributes.now a.notes.now a.cap a.mode
    l.nodes l.attributes l.notes l.st l.invariant.0 q.result q.new.nodes q.new.attributes q.ensures.0 c.if-st.false in
    omega (arith, fits)

pub zero_from-requires-then-is_clearing : goal.zero_from-requires-then-is_clearing
zero_from-requires-then-is_clearing c =
    let a = c.args in
    let l = c.loop-st in
    let q = c.advance_knowing-st in
    let fits = point-fits a.file.now (lends a.names.now a.area.now) a.nodes.now a.attributes.now a.notes.now a.cap a.mode
    l.nodes l.attributes l.notes l.st l.invariant.0 q.result q.new.nodes q.new.attributes q.ensures.0 c.if-st.false in
    omega (arith, fits)

pub returns-then-is_clearing : goal.returns-then-is_clearing
returns-then-is_clearing c =
    let a = c.args in
    let l = c.loop-st in
    let q = c.advance_knowing-st in
    let w = c.put_note in
    let z = c.zero_from-then-is_clearing in
    let due = c.if-st.false in
    let p =
    point-next a.file.now (lends a.names.now a.area.now) a.nodes.now a.attributes.now a.notes.now a.cap a.mode
    l.nodes l.attributes l.notes l.st l.invariant.0 q.result q.new.nodes q.new.attributes q.ensures.0
    due q.auto.nodes q.auto.attributes w.new.words w.ensures w.auto.words in
    point-cleared a.file.now (lends a.names.now a.area.now) a.nodes.now a.attributes.now a.notes.now a.cap a.mode
    q.new.nodes q.new.attributes w.new.words q.result p
    (sym c.is_clearing.ensures ∙ c.if-is_clearing.true)
    (point-slot a.file.now (lends a.names.now a.area.now) a.nodes.now a.attributes.now a.notes.now a.cap a.mode
    l.nodes l.attributes l.notes l.st l.invariant.0 q.result q.new.nodes q.new.attributes q.ensures.0 due)
    z.new.words z.ensures c.answer_of-then-is_clearing.result c.answer_of-then-is_clearing.ensures

pub loop-st-smaller : goal.loop-st-smaller
loop-st-smaller c =
    let a = c.args in
    let l = c.loop-st in
    let q = c.advance_knowing-st in
    point-less a.file.now (lends a.names.now a.area.now) a.nodes.now a.attributes.now a.notes.now a.cap a.mode
    l.nodes l.attributes l.notes l.st l.invariant.0 q.result q.new.nodes q.new.attributes q.ensures.0 c.if-st.false

pub loop-st-preserved : goal.loop-st-preserved
loop-st-preserved c =
    let a = c.args in
    let l = c.loop-st in
    let q = c.advance_knowing-st in
    let w = c.put_note in (
      point-next a.file.now (lends a.names.now a.area.now) a.nodes.now a.attributes.now a.notes.now a.cap a.mode
          l.nodes l.attributes l.notes l.st l.invariant.0 q.result q.new.nodes q.new.attributes q.ensures.0
          c.if-st.false q.auto.nodes q.auto.attributes w.new.words w.ensures w.auto.words,
      q.ensures.1,
    )
