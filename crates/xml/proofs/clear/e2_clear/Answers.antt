-- `xml::clear::e2_clear` meets its contract, by the values that the second byte tells.
use mathlib.Core.Bool.{◌&&◌, ◌||◌}
use lib.Dec.{eqb, leb}
use Rattle.utf.specs.Utf8.{inside}
use Prim.Native.Nat.{ℕ, ◌+◌, ◌*◌, ◌%◌}
use borrow.Author.Tests.{eqb-true, leb-true}
use Rattle.utf.proofs.Scalars.{inside-ends}
use Rattle.utf.proofs.Tables.{both_true}
use Rattle.utf.proofs.Either.{or2, or6}
use Rattle.xml.proofs.ClearBytes.{clear-three, char-joiner, char-tie, char-signs, char-2c00}
use native.Mathlib.Omega.{arith}
use Rattle.xml.proofs.clear.e2_clear.Goals as goal

pub returns : goal.returns
returns c =
    let x = c.args.c in
    let y = c.args.d in
    let v : ℕ = 0xe2 % 16 * 4096 + x % 64 * 64 + y % 64 in
    λ t e.
    or6
    (eqb x _ && (inside _ _ y || eqb y _))
    (eqb x _ && (eqb y _ || leb _ y))
    (inside _ _ x)
    (eqb x _ && leb y _)
    (inside _ _ x)
    (eqb x _ && leb y _)
    (rw (c.between.ensures, c.between-2.ensures, c.between-3.ensures) at t)
    (λ f.
    let p = both_true (eqb x _) (inside _ _ y || eqb y _) f in
    let q = eqb-true x _ p.0 in
    or2 (inside _ _ y) (eqb y _) p.1
    (λ g.
    let r = inside-ends _ _ y g in
    clear-three 0xe2 x y e (omega arith) (omega arith) (λ lc hc ld hd low. char-joiner v (omega arith) (omega arith)))
    (λ g.
    let r = eqb-true y _ g in
    clear-three 0xe2 x y e (omega arith) (omega arith) (λ lc hc ld hd low. char-tie v (omega arith) (omega arith))))
    (λ f.
    let p = both_true (eqb x _) (eqb y _ || leb _ y) f in
    let q = eqb-true x _ p.0 in
    or2 (eqb y _) (leb _ y) p.1
    (λ g.
    let r = eqb-true y _ g in
    clear-three 0xe2 x y e (omega arith) (omega arith) (λ lc hc ld hd low. char-tie v (omega arith) (omega arith)))
    (λ g.
    let r = leb-true _ y g in
    clear-three 0xe2 x y e (omega arith) (omega arith) (λ lc hc ld hd low. char-signs v (omega arith) (omega arith))))
    (λ f.
    let p = inside-ends _ _ x f in
    clear-three 0xe2 x y e (omega arith) (omega arith) (λ lc hc ld hd low. char-signs v (omega arith) (omega arith)))
    (λ f.
    let p = both_true (eqb x _) (leb y _) f in
    let q = eqb-true x _ p.0 in
    let r = leb-true y _ p.1 in
    clear-three 0xe2 x y e (omega arith) (omega arith) (λ lc hc ld hd low. char-signs v (omega arith) (omega arith)))
    (λ f.
    let p = inside-ends _ _ x f in
    clear-three 0xe2 x y e (omega arith) (omega arith) (λ lc hc ld hd low. char-2c00 v (omega arith) (omega arith)))
    (λ f.
    let p = both_true (eqb x _) (leb y _) f in
    let q = eqb-true x _ p.0 in
    let r = leb-true y _ p.1 in
    clear-three 0xe2 x y e (omega arith) (omega arith) (λ lc hc ld hd low. char-2c00 v (omega arith) (omega arith)))
