-- `xml::units::is_unit` meets its contract, by one of its tests.
use mathlib.Core.Bool.{not, ◌&&◌}
use lib.Dec.{eqb}
use borrow.Author.Tests.{eqb-true, eqb-false, not-true}
use Prim.Native.Nat.{◌<◌}
use Rattle.utf.proofs.Tables.{both_true}
use Rattle.utf.proofs.Either.{or5}
use Rattle.xml.specs.Inner.SeenChars.{far_high}
use Rattle.xml.proofs.UnitChars.{unit_is_far, unit-kana}
use borrow.Author.Rules.{rules}
use native.Mathlib.Omega.{arith}
use Rattle.xml.proofs.units.is_unit.Goals as goal

pub returns : goal.returns
returns c =
    let b = c.args.b in
    let x = c.args.c in
    let byte : b < 256 = search rules in
    λ t.
    or5 (far_high x) c.low_unit.result c.sign_unit.result (eqb x _ && not (eqb b _)) c.last_unit.result (rw c.far_high.ensures at t)
    (λ f. unit_is_far byte f)
    (λ f. c.low_unit.ensures f)
    (λ f. c.sign_unit.ensures f)
    (λ f.
    let p = both_true (eqb x _) (not (eqb b _)) f in
    let e = eqb-true x _ p.0 in
    let n = eqb-false b _ (not-true (eqb b _) p.1) in
    unit-kana b x byte (omega arith) (λ i. n (omega arith)))
    (λ f. c.last_unit.ensures f)
