-- `walk::passing::pass_foreign` meets its contract. Invariant: what is settled from here is what was settled at first. Measure: the bytes left.
use native.Mathlib.Omega.{arith}
use Rattle.walk.proofs.PastCap.{reaches-on}
use Rattle.walk.proofs.passing.pass_foreign.Goals as goal

pub loop-next-smaller : goal.loop-next-smaller
loop-next-smaller c =
    let q = c.in-Some.ensures in
    omega (arith, q.0, (q.1 0).fits)

pub loop-next-preserved : goal.loop-next-preserved
loop-next-preserved c =
    let a = c.args in
    let r = c.loop-next.reach in
    let n = c.in-Some.next in
    reaches-on a.b.now a.«from» a.before r.at r.run n.at n.run c.loop-next.invariant (c.in-Some.ensures.1 r.run)
