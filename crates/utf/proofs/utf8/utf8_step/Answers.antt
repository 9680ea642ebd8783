-- `utf::utf8::utf8_step` meets its contract: the step by the row of its first byte is Table 3-7's.
use mathlib.Core.Path.{sym}
use native.Mathlib.Omega.{arith}
use Rattle.utf.proofs.Places.{step8-past, step8-at}
use Rattle.utf.proofs.utf8.utf8_step.Goals as goal

pub returns-then-s-at : goal.returns-then-s-at
returns-then-s-at c = sym (step8-past c.args.s.now c.args.at c.if-s-at.true)

pub returns : goal.returns
returns c =
    let a = c.args in
    rw (step8-at a.s.now a.at (omega arith)) (cc)
