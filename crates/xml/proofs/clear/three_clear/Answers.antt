-- `xml::clear::three_clear` meets its contract, by each first byte, and where the bytes behind it are none of its own.
use mathlib.Core.Path.{sym, subst}
use mathlib.Core.Bool.{not, ◌&&◌, ◌||◌}
use lib.Dec.{eqb}
use Rattle.utf.specs.Utf8.{inside}
use Rattle.xml.specs.Inner.SeenChars.{is_trail}
use Prim.Native.Nat.{ℕ}
use borrow.Author.Tests.{eqb-true, eqb-false, not-true}
use Rattle.utf.proofs.Scalars.{inside-ends}
use Rattle.utf.proofs.Tables.{both_true}
use Rattle.xml.specs.Inner.ClearPlaces.{Clear}
use Rattle.utf.proofs.Either.{or2, or4}
use Rattle.xml.proofs.ClearBytes.{no-trail, clear-three, clear-e3}
use native.Mathlib.Omega.{arith}
use Rattle.xml.proofs.clear.three_clear.Goals as goal

pub returns : goal.returns
returns c =
    let a = c.args in
    let b = a.b in
    let x = a.c in
    let y = a.d in
    λ t e.
    or4
    (eqb b _ && (not (eqb x _) || not (eqb y _)))
    (inside _ _ b && (not (is_trail x) || not (is_trail y)))
    (eqb b _ && c.e2_clear.result)
    (eqb b _ && c.ef_clear.result)
    (rw (c.between.ensures, c.is_trail.ensures, c.is_trail-2.ensures) at t)
    (λ f.
    let p = both_true (eqb b _) (not (eqb x _) || not (eqb y _)) f in
    let q = eqb-true b _ p.0 in
    or2 (not (eqb x _)) (not (eqb y _)) p.1
    (λ g. let n = eqb-false x _ (not-true (eqb x _) g) in clear-e3 b x y e (omega arith) (λ i j. n (omega arith)))
    (λ g. let n = eqb-false y _ (not-true (eqb y _) g) in clear-e3 b x y e (omega arith) (λ i j. n (omega arith))))
    (λ f.
    let p = both_true (inside _ _ b) (not (is_trail x) || not (is_trail y)) f in
    let q = inside-ends _ _ b p.0 in
    or2 (not (is_trail x)) (not (is_trail y)) p.1
    (λ g. clear-three b x y e (omega arith) (omega arith) (λ lc hc ld hd low. absurd (no-trail x g lc hc)))
    (λ g. clear-three b x y e (omega arith) (omega arith) (λ lc hc ld hd low. absurd (no-trail y g ld hd))))
    (λ f.
    let p = both_true (eqb b _) c.e2_clear.result f in
    subst (λ (i : ℕ). Clear i x y e) (sym (eqb-true b _ p.0)) (c.e2_clear.ensures p.1 e))
    (λ f.
    let p = both_true (eqb b _) c.ef_clear.result f in
    subst (λ (i : ℕ). Clear i x y e) (sym (eqb-true b _ p.0)) (c.ef_clear.ensures p.1 e))
