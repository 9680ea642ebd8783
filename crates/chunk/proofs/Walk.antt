-- Laws of specs/Walk.antt, for every walk. No contract cites this file.
-- In order: the two equations of `walk`, its own induction (`walk-ind`), the two equations of `trace`.
use Prim.Native.Nat.{ℕ, zero, suc, ◌-◌, ◌≤◌}
use native.Mathlib.Omega.{arith}
use mathlib.Core.Path.{◌≡◌, refl, ap}
use mathlib.Core.List.{List, [], ◌∷◌, ◌++◌}
use borrow.Author.Tests.{ne_eqb}
use lib.ListN.{length, drop}
use Rattle.chunk.specs.Walk.{walk_from, walk, trace_from, trace}

one_fewer : (m : ℕ) → suc m - 1 ≡ m
one_fewer m = omega arith

module _ {S : Type 0} (used : List ℕ → S → ℕ) (next : List ℕ → S → S) where
  -- first to pass n bytes is to walk down the rest
  pub walk_from-drop : (l : List ℕ) (n : ℕ) (s : S) → walk_from used next l n s ≡ walk used next (drop n l) s
  unfolding walk_from walk
  walk_from-drop [] zero s = refl
  walk_from-drop [] (suc n) s = refl
  walk_from-drop (x ∷ l) zero s = refl
  walk_from-drop (x ∷ l) (suc n) s = walk_from-drop l n s

  -- where nothing is taken, the walk ends
  pub walk-stop : (l : List ℕ) (s : S) → used l s ≡ 0 → walk used next l s ≡ s
  unfolding walk_from walk
  walk-stop [] s e = refl
  walk-stop (x ∷ l) s e = rw e refl

  -- where m + 1 bytes are taken, it goes on behind them
  pub walk_step : (l : List ℕ) (s : S) (m : ℕ) → used l s ≡ suc m → suc m ≤ length l
      → walk used next l s ≡ walk used next (drop (suc m) l) (next l s)
  unfolding walk_from walk
  walk_step [] s m e h = absurd (omega arith)
  walk_step (x ∷ l) s m e h = rw (e, ne_eqb (suc m) 0 (λ z. omega arith), one_fewer m) (walk_from-drop l m (next (x ∷ l) s))

  module _ (fits : (l : List ℕ) (s : S) → used l s ≤ length l) where
    -- what holds where it stops, and holds at a place if it does at the next, holds everywhere
    module _ (P : List ℕ → S → Type 0) (stop : (l : List ℕ) (s : S) → used l s ≡ 0 → P l s)
        (more : (l : List ℕ) (s : S) (m : ℕ) → used l s ≡ suc m → suc m ≤ length l → P (drop (suc m) l) (next l s) → P l s) where
      at : (x : ℕ) (l : List ℕ) (s : S) → ((n : ℕ) (t : S) → P (drop n l) t) → (k : ℕ) → used (x ∷ l) s ≡ k → P (x ∷ l) s
      at x l s rec zero e = stop (x ∷ l) s e
      at x l s rec (suc m) e = more (x ∷ l) s m e (omega (arith, fits (x ∷ l) s)) (rec m (next (x ∷ l) s))

      ind-from : (l : List ℕ) (n : ℕ) (s : S) → P (drop n l) s
      ind-from [] zero s = stop [] s (omega (arith, fits [] s))
      ind-from [] (suc n) s = stop [] s (omega (arith, fits [] s))
      ind-from (x ∷ l) (suc n) s = ind-from l n s
      ind-from (x ∷ l) zero s = at x l s (λ n t. ind-from l n t) (used (x ∷ l) s) refl

      pub walk-ind : (l : List ℕ) (s : S) → P l s
      walk-ind l s = ind-from l 0 s

module _ {S D : Type 0} (used : List ℕ → S → ℕ) (out : List ℕ → S → List D) (next : List ℕ → S → S) (last : S → List D) where
  pub trace_from-drop : (l : List ℕ) (n : ℕ) (s : S) → trace_from used out next last l n s ≡ trace used out next last (drop n l) s
  unfolding trace_from trace
  trace_from-drop [] zero s = refl
  trace_from-drop [] (suc n) s = refl
  trace_from-drop (x ∷ l) zero s = refl
  trace_from-drop (x ∷ l) (suc n) s = trace_from-drop l n s

  -- where nothing is taken, it makes its last
  pub trace-stop : (l : List ℕ) (s : S) → used l s ≡ 0 → trace used out next last l s ≡ out l s ++ last s
  unfolding trace_from trace
  trace-stop [] s e = refl
  trace-stop (x ∷ l) s e = rw e refl

  -- where m + 1 bytes are taken, it goes on behind them
  pub trace-step : (l : List ℕ) (s : S) (m : ℕ) → used l s ≡ suc m → suc m ≤ length l
      → trace used out next last l s ≡ out l s ++ trace used out next last (drop (suc m) l) (next l s)
  unfolding trace_from trace
  trace-step [] s m e h = absurd (omega arith)
  trace-step (x ∷ l) s m e h =
      rw (e, ne_eqb (suc m) 0 (λ z. omega arith), one_fewer m) (ap (λ (r : List D). out (x ∷ l) s ++ r) (trace_from-drop l m (next (x ∷ l) s)))
