-- `xml::units::all_units` meets its contract, by each of its units.
use Prim.Native.Nat.{ℕ, ◌<◌}
use native.Mathlib.Omega.{arith}
use lib.ListN.{get_or}
use borrow.Author.Rules.{rules}
use Rattle.xml.proofs.UnitChars.{units-all}
use Rattle.xml.proofs.units.all_units.Goals as goal

pub returns : goal.returns
returns c = λ t.
    let a = c.args in
    let bytes : (i : ℕ) → get_or a.s.now i 0 < 256 = λ i. (c.type_inv.s i).fits in
    units-all a.s.now a.at 32 _ (omega arith) (λ k h. omega arith) bytes (λ k h. let f = c.all_pass.ensures.passes t k (omega arith) in search rules)
