-- `xml::units::last_unit` meets its contract, by each high byte.
use mathlib.Core.Bool.{not, ◌&&◌}
use lib.Dec.{eqb, leb}
use borrow.Author.Tests.{eqb-true, leb-true}
use Prim.Native.Nat.{◌<◌}
use Rattle.utf.specs.Utf8.{inside}
use Rattle.utf.proofs.Scalars.{inside-ends}
use Rattle.utf.proofs.Tables.{both_true}
use Rattle.utf.proofs.Either.{or4}
use Rattle.xml.proofs.ClearBytes.{outside}
use Rattle.xml.proofs.UnitChars.{unit-f900, unit-fd, unit-fdf0}
use borrow.Author.Rules.{rules}
use native.Mathlib.Omega.{arith}
use Rattle.xml.proofs.units.last_unit.Goals as goal

pub returns : goal.returns
returns c =
    let b = c.args.b in
    let x = c.args.c in
    let byte : b < 256 = search rules in
    λ t.
    or4 (inside _ _ x) (eqb x _ && not (inside _ _ b)) (eqb x _) (eqb x _ && leb b _) (rw (c.between.ensures, c.between-2.ensures) at t)
    (λ f. let p = inside-ends _ _ x f in unit-f900 b x byte (omega arith) (omega arith))
    (λ f.
    let p = both_true (eqb x _) (not (inside _ _ b)) f in
    let e = eqb-true x _ p.0 in
    unit-fd b x byte (omega arith) (λ l h. outside _ _ b p.1 (omega arith) (omega arith)))
    (λ f. let e = eqb-true x _ f in unit-fdf0 b x byte (omega arith) (omega arith))
    (λ f.
    let p = both_true (eqb x _) (leb b _) f in
    let e = eqb-true x _ p.0 in
    let q = leb-true b _ p.1 in
    unit-fdf0 b x byte (omega arith) (omega arith))
