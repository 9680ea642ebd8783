-- `utf::next_of` meets its contract: a byte of ASCII in UTF-8 is a step of its own, and any other step is told by its case.
use Prim.Native.Nat.{ℕ, ◌<◌}
use lib.ListN.{get_or}
use native.Mathlib.Omega.{arith}
use Rattle.utf.proofs.Turns.{took, took-ascii}
use Rattle.utf.proofs.next_of.Goals as goal

pub returns-then-s-at-lt128 : goal.returns-then-s-at-lt128
returns-then-s-at-lt128 c =
    let a = c.args in
    rw c.from.ensures (took-ascii a.utf16 a.s.now a.at c.if-not-utf16.true c.requires (omega arith))

pub returns : goal.returns
returns c =
    let a = c.args in
    let bytes : (i : ℕ) → get_or a.s.now i 0 < 256 = λ i. (c.type_inv.s i).fits in
    took a.utf16 a.s.now a.at _ _ _ c.step_at.result c.requires bytes c.step_at.ensures c.from-2.ensures
