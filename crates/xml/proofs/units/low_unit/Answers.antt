-- `xml::units::low_unit` meets its contract, by each high byte.
use mathlib.Core.Path.{sym, subst}
use mathlib.Core.Bool.{not, ◌&&◌}
use lib.Dec.{eqb}
use borrow.Author.Tests.{eqb-true, eqb-false, not-true}
use Prim.Native.Nat.{ℕ, ◌<◌}
use Rattle.utf.specs.Utf8.{inside}
use Rattle.utf.proofs.Scalars.{inside-ends}
use Rattle.utf.proofs.Tables.{both_true}
use Rattle.utf.proofs.Either.{or3}
use Rattle.xml.specs.Inner.SeenChars.{UnitChar}
use Rattle.xml.proofs.UnitChars.{unit-latin, unit-greek}
use borrow.Author.Rules.{rules}
use native.Mathlib.Omega.{arith}
use Rattle.xml.proofs.units.low_unit.Goals as goal

pub returns : goal.returns
returns c =
    let b = c.args.b in
    let x = c.args.c in
    let byte : b < 256 = search rules in
    let m = c.latin_unit in
    λ t.
    or3 (eqb x _ && m.result) (inside _ _ x) (eqb x _ && not (eqb b _)) (rw c.between.ensures at t)
    (λ f.
    let p = both_true (eqb x _) m.result f in
    subst (λ (i : ℕ). UnitChar b i) (sym (eqb-true x _ p.0)) (m.ensures p.1))
    (λ f. let p = inside-ends _ _ x f in unit-latin b x byte (omega arith) (omega arith))
    (λ f.
    let p = both_true (eqb x _) (not (eqb b _)) f in
    let e = eqb-true x _ p.0 in
    let n = eqb-false b _ (not-true (eqb b _) p.1) in
    unit-greek b x byte (omega arith) (λ i. n (omega arith)))
