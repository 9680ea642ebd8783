-- `xml::clear::four_clear` meets its contract, by each first byte, and where the bytes behind it are none of its own.
use mathlib.Core.Bool.{not, ◌&&◌, ◌||◌}
use lib.Dec.{eqb, ltb, leb}
use Rattle.utf.specs.Utf8.{inside}
use Rattle.xml.specs.Inner.SeenChars.{is_trail}
use borrow.Author.Tests.{eqb-true, ltb-true, leb-true}
use Rattle.utf.proofs.Scalars.{inside-ends}
use Rattle.utf.proofs.Tables.{both_true}
use Rattle.utf.proofs.Either.{or3}
use Rattle.xml.proofs.ClearBytes.{no-trail, clear-cut-four, clear-f3, clear-f4}
use native.Mathlib.Omega.{arith}
use Rattle.xml.proofs.clear.four_clear.Goals as goal

pub returns : goal.returns
returns c =
    let a = c.args in
    let b = a.b in
    let x = a.c in
    let y = a.d in
    let z = a.e in
    λ t.
    or3
    (inside _ _ b && ((not (is_trail x) || not (is_trail y)) || not (is_trail z)))
    (eqb b _ && ltb x _)
    (eqb b _ && leb _ x)
    (rw (c.between.ensures, c.is_trail.ensures, c.is_trail-2.ensures, c.is_trail-3.ensures) at t)
    (λ f.
    let p = both_true (inside _ _ b) ((not (is_trail x) || not (is_trail y)) || not (is_trail z)) f in
    let q = inside-ends _ _ b p.0 in
    clear-cut-four b x y z (omega arith) (omega arith)
    (λ lc hc ld hd le he.
    or3 (not (is_trail x)) (not (is_trail y)) (not (is_trail z)) p.1
    (λ i. no-trail x i lc hc)
    (λ i. no-trail y i ld hd)
    (λ i. no-trail z i le he)))
    (λ f.
    let p = both_true (eqb b _) (ltb x _) f in
    let q = eqb-true b _ p.0 in
    let r = ltb-true x _ p.1 in
    clear-f3 b x y z (omega arith) (omega arith))
    (λ f.
    let p = both_true (eqb b _) (leb _ x) f in
    let q = eqb-true b _ p.0 in
    let r = leb-true _ x p.1 in
    clear-f4 b x y z (omega arith) (omega arith))
