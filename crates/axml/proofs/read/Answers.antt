-- `axml::read` meets its contract: what the turns come to is LoopInvariant.antt's.
use native.Mathlib.Omega.{arith}
use Prim.Native.Nat.{◌<◌}
use lib.ListN.{length}
use Rattle.axml.proofs.LoopInvariant.{start, in_table, onward, fewer, leaves}
use Rattle.axml.proofs.read.Goals as goal

pub loop-st-init : goal.loop-st-init
loop-st-init c = start _ _ _ _ _ _ _ _ c.begin-st.ensures

pub offset_bounds-notes-st : goal.offset_bounds-notes-st
offset_bounds-notes-st c =
    let l = c.loop-st in
    let h : c.advance-st.result.slot < length l.notes =
    in_table _ _ _ _ _ _ _ l.st l.nodes l.attributes l.notes l.invariant c.advance-st.result _ _ c.advance-st.ensures c.if-st.false in
    omega arith

pub bounds-notes-st : goal.bounds-notes-st
bounds-notes-st c =
    let l = c.loop-st in
    in_table _ _ _ _ _ _ _ l.st l.nodes l.attributes l.notes l.invariant c.advance-st.result _ _ c.advance-st.ensures c.if-st.false

pub loop-st-smaller : goal.loop-st-smaller
loop-st-smaller c =
    let l = c.loop-st in
    fewer _ _ _ _ _ _ _ l.st l.nodes l.attributes l.notes l.invariant c.advance-st.result _ _ c.advance-st.ensures c.if-st.false

pub loop-st-preserved : goal.loop-st-preserved
loop-st-preserved c =
    let l = c.loop-st in
    onward _ _ _ _ _ _ _ l.st l.nodes l.attributes l.notes l.invariant c.advance-st.result _ _ c.advance-st.ensures c.if-st.false

pub returns-then-st : goal.returns-then-st
returns-then-st c =
    let l = c.loop-st in
    leaves _ _ _ _ _ _ _ l.st l.nodes l.attributes l.notes l.invariant c.advance-st.result _ _ c.advance-st.ensures c.if-st.true c.answer_of.result
    c.answer_of.ensures
