-- `xml::clear::ef_clear` meets its contract, by the values that the second byte tells.
use Prim.Native.Nat.{ℕ, ◌+◌, ◌*◌, ◌%◌}
use mathlib.Core.Bool.{not, ◌&&◌}
use lib.Dec.{eqb, leb}
use Rattle.utf.specs.Utf8.{inside}
use borrow.Author.Tests.{eqb-true, leb-true}
use Rattle.utf.proofs.Scalars.{inside-ends}
use Rattle.utf.proofs.Tables.{both_true}
use Rattle.utf.proofs.Either.{or4}
use Rattle.xml.proofs.ClearBytes.{outside, clear-three, clear-b7, char-f900, char-fdf0}
use native.Mathlib.Omega.{arith}
use Rattle.xml.proofs.clear.ef_clear.Goals as goal

pub returns : goal.returns
returns c =
    let x = c.args.c in
    let y = c.args.d in
    let v : ℕ = 0xef % 16 * 4096 + x % 64 * 64 + y % 64 in
    λ t e.
    or4
    (inside _ _ x)
    (eqb x _ && not (inside _ _ y))
    (inside _ _ x)
    (eqb x _ && leb y _)
    (rw (c.between.ensures, c.between-2.ensures, c.between-3.ensures) at t)
    (λ f.
    let p = inside-ends _ _ x f in
    clear-three 0xef x y e (omega arith) (omega arith) (λ lc hc ld hd low. char-f900 v (omega arith) (omega arith)))
    (λ f.
    let p = both_true (eqb x _) (not (inside _ _ y)) f in
    let q = eqb-true x _ p.0 in
    clear-b7 x y e (omega arith) (λ l h. outside _ _ y p.1 (omega arith) (omega arith)))
    (λ f.
    let p = inside-ends _ _ x f in
    clear-three 0xef x y e (omega arith) (omega arith) (λ lc hc ld hd low. char-fdf0 v (omega arith) (omega arith)))
    (λ f.
    let p = both_true (eqb x _) (leb y _) f in
    let q = eqb-true x _ p.0 in
    let r = leb-true y _ p.1 in
    clear-three 0xef x y e (omega arith) (omega arith) (λ lc hc ld hd low. char-fdf0 v (omega arith) (omega arith)))
