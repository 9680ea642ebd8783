-- Laws of `is_ascii` of specs/Plain.antt, for this crate and its callers. No contract cites this file.
-- In order: the greatest byte decides (`seen_ascii-..`, with `most` the greatest byte so far); each byte is below 128 (`is_ascii-at`); the rest
-- of such bytes, and their front (`is_ascii-drop`, `is_ascii-take`, `is_ascii-rest`).
use mathlib.Core.Path.{◌≡◌, refl}
use mathlib.Core.Bool.{Bool, true, false, ◌&&◌, and-true, and_assoc}
use mathlib.Core.List.{List, [], ◌∷◌, ◌++◌}
use Prim.Native.Nat.{ℕ, zero, suc, ◌+◌, ◌<◌, max}
use native.Mathlib.Numerals.{add-one}
use native.Mathlib.Omega.{arith}
use borrow.Author.Tests.{ltb-true, ltb-false, lt-ltb, le-ltb}
use lib.Dec.{ltb}
use lib.ListN.{length, take, drop, get_or}
use lib.Seq.{drop-cons, drop-length}
use Rattle.utf.specs.Plain.{is_ascii}
use Rattle.utf.proofs.Tables.{both_true}

-- ---- the greatest byte

-- of two numbers both are below a bound where the greater is
pub ltb-max : (n x y : ℕ) → ltb (max x y) n ≡ (ltb x n && ltb y n)
ltb-max n x y = go (ltb x n) refl (ltb y n) refl
  where
    go : (s : Bool) → ltb x n ≡ s → (t : Bool) → ltb y n ≡ t → ltb (max x y) n ≡ (s && t)
    go true e true f = lt-ltb (max x y) n (omega (arith, ltb-true x n e, ltb-true y n f))
    go true e false f = le-ltb (max x y) n (omega (arith, ltb-false y n f))
    go false e t f = le-ltb (max x y) n (omega (arith, ltb-false x n e))

-- `most` and all the bytes of l are below 128
abbrev pub seen_ascii : ℕ → List ℕ → Bool
seen_ascii most l = ltb most 0x80 && is_ascii l

-- at a place in a list
pub seen_ascii-next : (s : List ℕ) (i most : ℕ) → i < length s
    → seen_ascii (max most (get_or s i 0)) (drop (i + 1) s) ≡ seen_ascii most (drop i s)
unfolding is_ascii
seen_ascii-next s i most h =
    rw (ltb-max 0x80 most (get_or s i 0), add-one i, drop-cons s i 0 h)
    (and_assoc (ltb most 0x80) (ltb (get_or s i 0) 0x80) (is_ascii (drop (suc i) s)))

pub seen_ascii-end : (s : List ℕ) (i most : ℕ) → i ≡ length s → seen_ascii most (drop i s) ≡ ltb most 0x80
unfolding is_ascii
seen_ascii-end s i most e = rw (e, drop-length) (and-true (ltb most 0x80))

-- ---- every byte; past the end a byte reads as 0

pub is_ascii-at : (s : List ℕ) → is_ascii s ≡ true → (i : ℕ) → get_or s i 0 < 128
unfolding is_ascii
is_ascii-at [] e i = omega arith
is_ascii-at (b ∷ s) e zero = ltb-true b 0x80 (both_true (ltb b 0x80) (is_ascii s) e).0
is_ascii-at (b ∷ s) e (suc i) = is_ascii-at s (both_true (ltb b 0x80) (is_ascii s) e).1 i

pub is_ascii-drop : (n : ℕ) (s : List ℕ) → is_ascii s ≡ true → is_ascii (drop n s) ≡ true
unfolding is_ascii
is_ascii-drop zero s e = e
is_ascii-drop (suc n) [] e = e
is_ascii-drop (suc n) (b ∷ s) e = is_ascii-drop n s (both_true (ltb b 0x80) (is_ascii s) e).1

pub is_ascii-take : (n : ℕ) (s : List ℕ) → is_ascii s ≡ true → is_ascii (take n s) ≡ true
unfolding is_ascii
is_ascii-take zero s e = refl
is_ascii-take (suc n) [] e = e
is_ascii-take (suc n) (b ∷ s) e =
    let p = both_true (ltb b 0x80) (is_ascii s) e in
    rw (p.0, is_ascii-take n s p.1)

pub is_ascii-rest : (p q : List ℕ) → is_ascii (p ++ q) ≡ true → is_ascii q ≡ true
unfolding is_ascii
is_ascii-rest [] q e = e
is_ascii-rest (b ∷ p) q e = is_ascii-rest p q (both_true (ltb b 0x80) (is_ascii (p ++ q)) e).1
