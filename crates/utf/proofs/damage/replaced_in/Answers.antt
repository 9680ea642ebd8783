-- `utf::damage::replaced_in` meets its contract. Invariant: what is counted and what is left make the whole (`Tallied`). Measure: the bytes left.
use Rattle.utf.proofs.BadSteps.{tallied, all-tallied}
use Rattle.utf.proofs.damage.replaced_in.Goals as goal

pub loop-at-preserved : goal.loop-at-preserved
loop-at-preserved c =
    let in-loop = c in
    tallied _ _ _ _ _ _ _ in-loop.loop-at.invariant in-loop.loop-at-test.true c.next_of-t.ensures c.from-n.ensures

pub returns : goal.returns
returns c = all-tallied _ _ _ c.loop-at.invariant c.loop-at-test.false
