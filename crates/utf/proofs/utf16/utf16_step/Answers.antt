-- `utf::utf16::utf16_step` meets its contract: two units at most are read, and both past the end read as 0.
use mathlib.Core.Path.{sym}
use native.Mathlib.Omega.{arith}
use Rattle.utf.proofs.Places.{step16-past, step16-short, step16-at}
use Rattle.utf.proofs.utf16.utf16_step.Goals as goal

pub returns-then-s-at : goal.returns-then-s-at
returns-then-s-at c = sym (step16-past c.args.s.now c.args.at c.if-s-at.true)

pub returns-then-s-at-lt2 : goal.returns-then-s-at-lt2
returns-then-s-at-lt2 c = sym (step16-short c.args.s.now c.args.at (omega arith) (omega arith))

pub returns : goal.returns
returns c =
    let a = c.args in
    rw (step16-at a.s.now a.at (omega arith)) (cc)
