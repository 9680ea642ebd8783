-- Places one behind the other, the k-th at f k: what holds from each to the next, holds from the first to the last.
use mathlib.Core.Path.{◌≡◌, refl, subst}
use Prim.Native.Nat.{ℕ, zero, suc, ◌<◌}
use native.Mathlib.Omega.{arith}

module _ (R : ℕ → ℕ → Type 0) (none : (i : ℕ) → R i i) (on : (i j k : ℕ) → R i j → R j k → R i k) (f : ℕ → ℕ) where
  chain : (n : ℕ) → ((k : ℕ) → k < n → R (f k) (f (suc k))) → R (f 0) (f n)
  chain zero p = none (f 0)
  chain (suc n) p = on (f 0) (f n) (f (suc n)) (chain n (λ k h. p k (omega arith))) (p n (omega arith))

  -- the same, where the ends are told otherwise, and how far each goes
  pub chain_of : (n at to : ℕ) → f 0 ≡ at → f n ≡ to → ((k j : ℕ) → k < n → j ≡ f (suc k) → R (f k) j) → R at to
  chain_of n at to e l p =
      subst (λ (j : ℕ). R at j) l (subst (λ (i : ℕ). R i (f n)) e (chain n (λ k h. p k (f (suc k)) h refl)))
