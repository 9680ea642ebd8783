-- A rule at each number below a bound, by one test that is computed once for all of them.
use mathlib.Core.Path.{◌≡◌, refl, subst, sym}
use mathlib.Core.Bool.{Bool, true, false, ◌&&◌}
use Prim.Native.Nat.{ℕ, zero, suc, ◌<◌}
use native.Mathlib.Omega.{arith}
use borrow.Author.Tests.{eqb-true, eqb-false}
use lib.Dec.{eqb}

pub both_true : (x y : Bool) → (x && y) ≡ true → (x ≡ true) × (y ≡ true)
both_true true y e = (refl, e)
both_true false true e = (e, refl)
both_true false false e = (e, e)

-- the test passes at each number below n
abbrev pub below : (ℕ → Bool) → ℕ → Bool
below f zero = true
below f (suc n) = f n && below f n

pub below_at : (f : ℕ → Bool) (n k : ℕ) → below f n ≡ true → k < n → f k ≡ true
below_at f zero k t h = absurd (let z : ⊥ = omega arith in z)
below_at f (suc n) k t h = go (below_at f n k (both_true (f n) (below f n) t).1) (eqb k n) refl
  where
    go : (k < n → f k ≡ true) → (b : Bool) → eqb k n ≡ b → f k ≡ true
    go r true e = subst (λ (m : ℕ). f m ≡ true) (sym (eqb-true k n e)) (both_true (f n) (below f n) t).0
    go r false e = r (let d = eqb-false k n e in omega arith)
