-- `xml::units::latin_unit` meets its contract, by each of its tests.
use mathlib.Core.Bool.{not, ◌&&◌}
use lib.Dec.{eqb, leb}
use borrow.Author.Tests.{eqb-true, eqb-false, leb-true, not-true}
use Prim.Native.Nat.{◌<◌}
use Rattle.utf.proofs.Tables.{both_true}
use Rattle.utf.proofs.Either.{or3}
use Rattle.xml.specs.Inner.SeenChars.{ascii_low}
use Rattle.xml.proofs.UnitChars.{unit-ascii, unit-dot, unit-letter}
use borrow.Author.Rules.{rules}
use native.Mathlib.Omega.{arith}
use Rattle.xml.proofs.units.latin_unit.Goals as goal

pub returns : goal.returns
returns c =
    let b = c.args.b in
    let byte : b < 256 = search rules in
    λ t.
    or3 (ascii_low b) (eqb b _) ((leb _ b && not (eqb b _)) && not (eqb b _)) (rw c.ascii_low.ensures at t)
    (λ f. unit-ascii b f)
    (λ f. let e = eqb-true b _ f in unit-dot b (omega arith))
    (λ f.
    let p = both_true (leb _ b && not (eqb b _)) (not (eqb b _)) f in
    let q = both_true (leb _ b) (not (eqb b _)) p.0 in
    let l = leb-true _ b q.0 in
    let n = eqb-false b _ (not-true (eqb b _) q.1) in
    let m = eqb-false b _ (not-true (eqb b _) p.1) in
    unit-letter b byte (omega arith) (λ i. n (omega arith)) (λ i. m (omega arith)))
