-- `unicode_cases::walk` is safe and ends. Invariant: the text before lies in the file. Measure: the bytes left.
use native.Mathlib.Omega.{arith}
use Rattle.unicode_cases.proofs.walk.Goals as goal

pub judge-v-requires : goal.judge-v-requires
judge-v-requires c = (c.record_at-r.ensures.0, c.loop-at.invariant.0, c.loop-at.invariant.1)

pub loop-at-smaller : goal.loop-at-smaller
loop-at-smaller c = omega (arith, c.record_at-r.ensures.1, c.record_at-r.ensures.0.inside)

pub loop-at-preserved : goal.loop-at-preserved
loop-at-preserved c =
    let k = c.record_at-r.ensures.0 in (k.bytes, omega arith)
