-- `utf::step_run` meets its contract. Invariant: what was passed is sound (`Ran`). Measure: the bytes left before `end`.
use native.Mathlib.Omega.{arith}
use borrow.Author.Tests.{not-true, not-false}
use Rattle.utf.proofs.Units.{ran-join, ran-step, halted-bad}
use Rattle.utf.proofs.step_run.Goals as goal

pub returns-then-not-t : goal.returns-then-not-t
returns-then-not-t c =
    let q = c in
    halted-bad _ _ _ _ _ _ _ _ q.loop-i.invariant (omega arith) q.next_of-t.ensures (not-true _ c.if-not-t.true)

pub loop-i-preserved : goal.loop-i-preserved
loop-i-preserved c =
    let q = c in
    let sound = not-false _ c.if-not-t.false in
    let step = ran-step _ _ _ _ _ _ _ q.loop-i.invariant (omega arith) q.next_of-t.ensures sound in
    ran-join _ _ _ _ _ step c.sound_run-i-in-loop-i.ensures
