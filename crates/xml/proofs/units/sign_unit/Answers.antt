-- `xml::units::sign_unit` meets its contract, by each high byte.
use mathlib.Core.Bool.{◌&&◌, ◌||◌}
use lib.Dec.{eqb, leb}
use borrow.Author.Tests.{eqb-true, leb-true}
use Prim.Native.Nat.{◌<◌}
use Rattle.utf.specs.Utf8.{inside}
use Rattle.utf.proofs.Scalars.{inside-ends}
use Rattle.utf.proofs.Tables.{both_true}
use Rattle.utf.proofs.Either.{or3, or4}
use Rattle.xml.proofs.UnitChars.{unit-joiner, unit-tie, unit-signs, unit-2c00}
use borrow.Author.Rules.{rules}
use native.Mathlib.Omega.{arith}
use Rattle.xml.proofs.units.sign_unit.Goals as goal

pub returns : goal.returns
returns c =
    let b = c.args.b in
    let x = c.args.c in
    let byte : b < 256 = search rules in
    λ t.
    or4 (eqb x _ && ((inside _ _ b || inside _ _ b) || leb _ b)) (eqb x _ && leb b _) (inside _ _ x) (eqb x _ && leb b _)
    (rw (c.between.ensures, c.between-2.ensures, c.between-3.ensures) at t)
    (λ f.
    let p = both_true (eqb x _) ((inside _ _ b || inside _ _ b) || leb _ b) f in
    let e = eqb-true x _ p.0 in
    or3 (inside _ _ b) (inside _ _ b) (leb _ b) p.1
    (λ g. let q = inside-ends _ _ b g in unit-joiner b x byte (omega arith) (omega arith) (omega arith))
    (λ g. let q = inside-ends _ _ b g in unit-tie b x byte (omega arith) (omega arith) (omega arith))
    (λ g. let q = leb-true _ b g in unit-signs b x byte (omega arith) (omega arith)))
    (λ f.
    let p = both_true (eqb x _) (leb b _) f in
    let e = eqb-true x _ p.0 in
    let q = leb-true b _ p.1 in
    unit-signs b x byte (omega arith) (omega arith))
    (λ f. let p = inside-ends _ _ x f in unit-2c00 b x byte (omega arith) (omega arith))
    (λ f.
    let p = both_true (eqb x _) (leb b _) f in
    let e = eqb-true x _ p.0 in
    let q = leb-true b _ p.1 in
    unit-2c00 b x byte (omega arith) (omega arith))
