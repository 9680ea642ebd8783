-- `walk::passing::pass_one` meets its contract: a chunk of the one sort, or of the other.
use native.Mathlib.Omega.{arith}
use Rattle.walk.proofs.PastCap.{reaches-0, reaches-1}
use Rattle.walk.proofs.passing.pass_one.Goals as goal

pub returns-then-n-gt0 : goal.returns-then-n-gt0
returns-then-n-gt0 c =
    (omega (arith, c.if-n-gt0.true), λ run. reaches-0 _ _ run _ c.if-n-gt0.true c.run_used-n.ensures.1 c.run_used-n.ensures.0)

pub returns-then-m-gt0 : goal.returns-then-m-gt0
returns-then-m-gt0 c =
    (omega (arith, c.if-m-gt0.true), λ run. reaches-1 _ _ run _ c.if-m-gt0.true c.run_used-m.ensures.1 c.run_used-m.ensures.0)
