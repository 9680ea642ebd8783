-- Laws of specs/Written.antt: texts written one behind the other. Not here: what the buffer holds at the end (proofs/Fitted.antt).
use Prim.Native.Nat.{ℕ, suc, ◌+◌, ◌≤◌}
use mathlib.Core.Path.{◌≡◌, refl}
use mathlib.Core.List.{List, [], ◌∷◌, ◌++◌}
use native.Mathlib.Omega.{arith}
use native.Mathlib.Nat.{add-suc, suc-add}
use native.Mathlib.Numerals.{unary_clauses}
use lib.ListN.{length, set, length-append}
use lib.Seq.{length-sets}
use Rattle.digits.specs.Written.{written, Wrote}

-- ---- one text behind another

pub written-append : (s t l : List ℕ) (p : ℕ) → written p (s ++ t) l ≡ written (p + length s) t (written p s l)
unfolding written
written-append [] t l p = simp unary_clauses
written-append (b ∷ s) t l p = rw (add-suc, ← suc-add) (written-append s t (set l p b) (suc p))

pub length-written : (s l : List ℕ) (p : ℕ) → length (written p s l) ≡ length l
unfolding written
length-written s l p = length-sets l p s

pub wrote-append : {m n p q r : ℕ} {s t l k j : List ℕ} → Wrote m p s l q k → Wrote n q t k r j → Wrote (m + n) p (s ++ t) l r j
wrote-append {m} {n} {p} {q} {r} {s} {t} {l} {k} {j} a b =
    record {
      place = rw length-append (omega arith);
      near = omega arith;
      out = rw (written-append, ← a.place, ← a.out) b.out;
    }

-- the same text, and a greater bound
pub wrote-more : {m n p r : ℕ} {s t l j : List ℕ} → Wrote m p s l r j → s ≡ t → m ≤ n → Wrote n p t l r j
wrote-more {m} {n} {p} {r} {s} {t} {l} {j} a e h =
    record { place = rw (← e) a.place; near = omega (arith, a.near); out = rw (← e) a.out }

-- the same, and the text's own length as the bound, or a greater one
pub wrote-within : {m n p r : ℕ} {s l j : List ℕ} → Wrote m p s l r j → length s ≤ n → Wrote n p s l r j
wrote-within {m} {n} {p} {r} {s} {l} {j} a h = record { place = a.place; near = omega (arith, a.place); out = a.out }

pub wrote_none : (m p : ℕ) (l : List ℕ) → Wrote m p [] l p l
unfolding written
wrote_none m p l = record { place = omega arith; near = omega arith; out = refl }

-- ---- a text that is written piece by piece

-- what is left to be written from p on makes of l what the whole makes of l₀ from p₀ on
pub record Left (p₀ : ℕ) (whole l₀ : List ℕ) (p : ℕ) (rest l : List ℕ) : Type 0 where
  pub place : p + length rest ≡ p₀ + length whole
  pub out : written p rest l ≡ written p₀ whole l₀

pub left-first : (p : ℕ) (s l : List ℕ) → Left p s l p s l
left-first p s l = record { place = refl; out = refl }

pub left_step :
    {m p₀ p q : ℕ} {whole l₀ l k : List ℕ} (s t : List ℕ) → Left p₀ whole l₀ p (s ++ t) l → Wrote m p s l q k → Left p₀ whole l₀ q t k
left_step {m} {p₀} {p} {q} {whole} {l₀} {l} {k} s t a b =
    record {
      place = let h : length (s ++ t) ≡ length s + length t = length-append s t in omega arith;
      out = rw (b.place, b.out, ← written-append) a.out;
    }

pub left-done : {p₀ p : ℕ} {whole l₀ l : List ℕ} (m : ℕ) → Left p₀ whole l₀ p [] l → p ≤ p₀ + m → Wrote m p₀ whole l₀ p l
unfolding written
left-done {p₀} {p} {whole} {l₀} {l} m a h = record { place = omega (arith, a.place); near = h; out = a.out }

-- a piece of what is left
pub left-piece :
    {m p₀ p q : ℕ} {whole l₀ l k s t r : List ℕ} → Left p₀ whole l₀ p r l → r ≡ s ++ t → Wrote m p s l q k → Left p₀ whole l₀ q t k
left-piece {s = s} {t = t} a e b = left_step s t (rw e at a) b

-- nothing is left
pub left-none : {p₀ p : ℕ} {whole l₀ l r : List ℕ} (m : ℕ) → Left p₀ whole l₀ p r l → r ≡ [] → p ≤ p₀ + m → Wrote m p₀ whole l₀ p l
left-none m a e h = left-done m (rw e at a) h
