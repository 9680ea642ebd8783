-- `utf::utf8_run` meets its contract. Invariant: what was passed is sound (`Ran`).
use native.Mathlib.Omega.{arith}
use Rattle.utf.proofs.Units.{ran-ascii}
use Rattle.utf.proofs.utf8_run.Goals as goal

pub loop-i-preserved : goal.loop-i-preserved
loop-i-preserved c = (ran-ascii _ _ _ c.loop-i.invariant.0 (omega arith) (omega arith), omega arith)
