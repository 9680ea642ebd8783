-- `utf::formed::all_formed` meets its contract (Invariants.antt).
use Prim.Native.Nat.{ℕ, ◌+◌, ◌<◌}
use lib.ListN.{get_or}
use Rattle.utf.proofs.FormedRuns.{formed-next, placed-turn}
use native.Mathlib.Omega.{arith}
use Rattle.utf.proofs.formed.all_formed.Goals as goal

pub loop-k-preserved : goal.loop-k-preserved
loop-k-preserved c =
    let l = c.loop-k in
    let a = c.args in
    let bytes : (i : ℕ) → get_or a.s.now i 0 < 256 = λ i. (c.type_inv.s i).fits in
    rw (c.min-least.ensures, c.from.ensures)
    (formed-next a.n a.s.now a.at l.least l.k _ l.invariant (omega arith)
    (λ t. placed-turn a.s.now bytes a.at (a.at + l.k) (omega (arith, c.requires.0)) (c.is_formed-x.ensures t)))
