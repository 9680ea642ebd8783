-- `utf::bytes_len` meets its contract. Invariant: what is counted and what is left make the whole (`Counted`). Measure: the bytes left.
use native.Mathlib.Omega.{arith}
use Rattle.utf.proofs.Filled.{counted, all-counted}
use Rattle.utf.proofs.bytes_len.Goals as goal

pub loop-at-preserved : goal.loop-at-preserved
loop-at-preserved c =
    counted _ _ _ _ _ _ _ _ c.loop-at.invariant c.loop-at-test.true c.next_of-t.ensures c.scalar_len-k.ensures _ (omega arith)

pub returns : goal.returns
returns c = all-counted _ _ _ _ c.loop-at.invariant c.loop-at-test.false
