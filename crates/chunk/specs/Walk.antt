-- A walk down a list of bytes. At each place it looks at the bytes that are left, `l`, and at its state, `s`: `used l s` says how many
-- bytes it takes there (0: it stops), and `next l s` with what state it goes on.
--
--   walk        the state in which it ends
--   trace       what it makes on its way, in order: `out l s` at each place, and `last s` where it stops
--   walk_from    the walk down `drop n l`: n bytes are passed, and then it looks again; trace_from likewise
--
-- A recursion down the list needs no bound, so the bytes that a place takes are passed one by one: the first of them is the list's own, the
-- others, one fewer, are what `walk_from` passes in the rest. `walk-stop`, `walk_step`, `trace-stop` and `trace-step` (proofs/Walk.antt) say the
-- same as two equations each, with `drop`.
use Rattle.std.specs.Prelude.{ℕ, zero, suc, ◌-◌, List, [], ◌∷◌, ◌++◌, cond, eqb}

module _ {S : Type 0} (used : List ℕ → S → ℕ) (next : List ℕ → S → S) where
  unfoldable pub walk_from : List ℕ → ℕ → S → S
  walk_from [] n s = s
  walk_from (x ∷ l) (suc n) s = walk_from l n s
  walk_from (x ∷ l) zero s = cond (eqb (used (x ∷ l) s) 0) s (walk_from l (used (x ∷ l) s - 1) (next (x ∷ l) s))

  unfoldable pub walk : List ℕ → S → S
  walk l s = walk_from l 0 s

module _ {S D : Type 0} (used : List ℕ → S → ℕ) (out : List ℕ → S → List D) (next : List ℕ → S → S) (last : S → List D) where
  unfoldable pub trace_from : List ℕ → ℕ → S → List D
  trace_from [] n s = out [] s ++ last s
  trace_from (x ∷ l) (suc n) s = trace_from l n s
  trace_from (x ∷ l) zero s = out (x ∷ l) s ++ cond (eqb (used (x ∷ l) s) 0) (last s) (trace_from l (used (x ∷ l) s - 1) (next (x ∷ l) s))

  unfoldable pub trace : List ℕ → S → List D
  trace l s = trace_from l 0 s
