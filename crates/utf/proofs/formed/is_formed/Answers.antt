-- `utf::formed::is_formed` meets its contract, by each form of a sequence.
use mathlib.Core.Bool.{not, ◌&&◌}
use lib.Dec.{ltb}
use borrow.Author.Tests.{ltb-true}
use Rattle.utf.specs.Utf8.{inside}
use Rattle.utf.proofs.Scalars.{inside-ends}
use Rattle.utf.proofs.Tables.{both_true}
use Rattle.utf.proofs.Either.{or5}
use Rattle.utf.proofs.Sequences.{not-inner, placed-inner, placed-ascii, placed-two, placed-three, placed-four}
use native.Mathlib.Omega.{arith}
use Rattle.utf.proofs.formed.is_formed.Goals as goal

pub returns : goal.returns
returns c =
    let a = c.args in
    let b = a.b in
    let x = a.c in
    let y = a.d in
    let z = a.e in
    let u = a.f in
    let m = c.second_fits-more.result in
    let second = c.second_fits-more.ensures in
    λ t.
    or5
    (inside 0x80 0xbf b)
    (ltb b _ && not (inside 0x80 0xbf x))
    ((inside _ _ b && m) && not (inside 0x80 0xbf y))
    (((inside _ _ b && m) && inside 0x80 0xbf y) && not (inside 0x80 0xbf z))
    ((((inside _ _ b && m) && inside 0x80 0xbf y) && inside 0x80 0xbf z) && not (inside 0x80 0xbf u))
    (rw (
      c.is_inner.ensures,
      c.is_inner-2.ensures,
      c.between.ensures,
      c.is_inner-3.ensures,
      c.between-2.ensures,
      c.is_inner-4.ensures,
      c.is_inner-5.ensures,
      c.between-3.ensures,
      c.is_inner-6.ensures,
      c.is_inner-7.ensures,
      c.is_inner-8.ensures,
    ) at t)
    (λ f. placed-inner b x y z u (inside-ends 0x80 0xbf b f))
    (λ f.
    let p = both_true (ltb b _) (not (inside 0x80 0xbf x)) f in
    let q = ltb-true b _ p.0 in
    placed-ascii b x y z u (omega (arith, q)) (not-inner x p.1))
    (λ f.
    let p = both_true (inside _ _ b && m) (not (inside 0x80 0xbf y)) f in
    let q = both_true (inside _ _ b) m p.0 in
    let r = inside-ends _ _ b q.0 in
    placed-two b x y z u (omega (arith, r)) (omega (arith, r)) (second q.1) (not-inner y p.1))
    (λ f.
    let p = both_true ((inside _ _ b && m) && inside 0x80 0xbf y) (not (inside 0x80 0xbf z)) f in
    let o = both_true (inside _ _ b && m) (inside 0x80 0xbf y) p.0 in
    let q = both_true (inside _ _ b) m o.0 in
    let r = inside-ends _ _ b q.0 in
    placed-three b x y z u (omega (arith, r)) (omega (arith, r)) (second q.1) (inside-ends 0x80 0xbf y o.1) (not-inner z p.1))
    (λ f.
    let p = both_true (((inside _ _ b && m) && inside 0x80 0xbf y) && inside 0x80 0xbf z) (not (inside 0x80 0xbf u)) f in
    let i = both_true ((inside _ _ b && m) && inside 0x80 0xbf y) (inside 0x80 0xbf z) p.0 in
    let o = both_true (inside _ _ b && m) (inside 0x80 0xbf y) i.0 in
    let q = both_true (inside _ _ b) m o.0 in
    let r = inside-ends _ _ b q.0 in
    placed-four b x y z u (omega (arith, r)) (omega (arith, r)) (second q.1) (inside-ends 0x80 0xbf y o.1) (inside-ends 0x80 0xbf z i.1)
    (not-inner u p.1))
