-- `utf::utf16_run` meets its contract (Invariants.antt).
use Prim.Native.Nat.{ℕ, ◌+◌, ◌*◌, ◌<◌}
use mathlib.Core.Bool.{true}
use mathlib.Core.Path.{subst}
use native.Mathlib.Omega.{arith}
use lib.ListN.{get_or}
use Rattle.utf.specs.Inner.StepRuns.{Ran}
use Rattle.utf.proofs.Units.{ran-unit}
use Rattle.utf.proofs.utf16_run.Goals as goal

pub loop-k-preserved : goal.loop-k-preserved
loop-k-preserved c =
    let a = c.args in
    let i = a.at + 2 * c.loop-k.k in
    let bytes : (n : ℕ) → get_or a.s.now n 0 < 256 = λ n. (c.type_inv.s n).fits in
    subst (λ (n : ℕ). Ran true a.s.now a.at n) (omega arith) (ran-unit a.s.now a.at i c.loop-k.invariant (omega arith) bytes (λ e. omega arith))
