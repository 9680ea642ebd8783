-- Laws of `starts_with` and `without` of specs/Names.antt. No contract cites this file.
-- In order: a text that begins with p is as long (`starts_with-le`); the library's test (`starts_with-needle`); what is left is no
-- longer (`without-le`), and ASCII where the text is (`is_ascii-without`).
use Rattle.std.specs.Cmp.Lexicographic.{pointwise}
use Rattle.std.proofs.Common.{◌≡◌, ℕ, ◌≤◌, Bool, true, false, cond, ◌&&◌, eqb, List, [], ◌∷◌, length, take, drop, refl, sym}
use Rattle.std.proofs.Common.{suc-le-suc, zero-le, arith, length-drop, eqb-true, eq-eqb, ne_eqb}
use borrow.Author.Tests.{eqb-false}
use Rattle.utf.specs.Plain.{is_ascii}
use Rattle.utf.proofs.Ascii.{is_ascii-drop}
use Rattle.system_types.specs.Names.{starts_with, without}

pub starts_with-le : (s p : List ℕ) → starts_with s p ≡ true → length p ≤ length s
starts_with-le s [] h = zero-le
starts_with-le [] (x ∷ p) h = let z : ◌≡◌ {A = ℕ} 0 1 = cc in omega arith
starts_with-le (a ∷ s) (x ∷ p) h = suc-le-suc (starts_with-le s p (second (eqb a x) (starts_with s p) h))
  where
    second : (b d : Bool) → (b && d) ≡ true → d ≡ true
    second true d e = e
    second false true e = refl
    second false false e = e

eqb-sym : (x a : ℕ) → eqb x a ≡ eqb a x
eqb-sym x a = go (eqb a x) refl
  where
    go : (b : Bool) → eqb a x ≡ b → eqb x a ≡ b
    go true e = eq-eqb x a (sym (eqb-true a x e))
    go false e = ne_eqb x a (λ p. eqb-false a x e (sym p))

-- what the library's `starts_with` of slices says
pub starts_with-needle : (s p : List ℕ) → pointwise eqb p (take (length p) s) ≡ starts_with s p
starts_with-needle s [] = refl
starts_with-needle [] (x ∷ p) = refl
starts_with-needle (a ∷ s) (x ∷ p) = rw (eqb-sym x a, starts_with-needle s p)

pub without-le : (p s : List ℕ) → length (without p s) ≤ length s
without-le p s = go (starts_with s p)
  where
    go : (b : Bool) → length (cond b (drop (length p) s) s) ≤ length s
    go true = rw length-drop (omega arith)
    go false = omega arith

pub is_ascii-without : (p s : List ℕ) → is_ascii s ≡ true → is_ascii (without p s) ≡ true
is_ascii-without p s e = go (starts_with s p)
  where
    go : (b : Bool) → is_ascii (cond b (drop (length p) s) s) ≡ true
    go true = is_ascii-drop (length p) s e
    go false = e
