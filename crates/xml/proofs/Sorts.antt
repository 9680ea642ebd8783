-- Laws of the sorts of specs/NCName.antt: what a value's sort says; ASCII and beyond.
use mathlib.Core.Path.{◌≡◌, refl, ◌∙◌}
use mathlib.Core.Bool.{Bool, true, false, not, ◌||◌, cond}
use Prim.Native.Nat.{ℕ, ◌≤◌, ◌<◌}
use native.Mathlib.Omega.{arith}
use borrow.Author.Tests.{le-leb, lt-leb, ltb-true, ltb-false}
use lib.Dec.{ltb, eqb}
use Rattle.xml.specs.NCName.{in_ranges, name_start, name_more, is_start, is_char, char_sort, class_of}

-- ---- the sort of a value

pub char_sort-start : (v : ℕ) → eqb (char_sort v) 1 ≡ is_start v
unfolding char_sort
char_sort-start v = go (is_start v) (is_char v)
  where
    go : (a b : Bool) → eqb (cond a 1 (cond b 2 0)) 1 ≡ a
    go true b = refl
    go false true = refl
    go false false = refl

pub char_sort-char : (v : ℕ) → not (eqb (char_sort v) 0) ≡ is_char v
unfolding char_sort is_start is_char
char_sort-char v = go (in_ranges name_start v) (in_ranges name_more v)
  where
    go : (a b : Bool) → not (eqb (cond a 1 (cond (a || b) 2 0)) 0) ≡ (a || b)
    go true b = refl
    go false true = refl
    go false false = refl

pub char_sort-most : (v : ℕ) → char_sort v < 3
unfolding char_sort
char_sort-most v = go (is_start v) (is_char v)
  where
    go : (a b : Bool) → cond a 1 (cond b 2 0) < 3
    go true b = omega arith
    go false true = omega arith
    go false false = omega arith

-- ---- a byte of ASCII, and one beyond

pub class_of-ascii : (b : ℕ) → b < 128 → class_of b ≡ char_sort b
unfolding class_of
class_of-ascii b h = rw (lt-leb 128 b h)

pub class_of-beyond : (b : ℕ) → 128 ≤ b → class_of b ≡ 3
unfolding class_of
class_of-beyond b h = rw (le-leb 128 b h)

-- what a class below 3 says, and another one
pub class-ascii : (b k : ℕ) → k ≡ class_of b → k < 3 → (b < 128) × (k ≡ char_sort b)
class-ascii b k e h = go (ltb b 128) refl
  where
    go : (t : Bool) → ltb b 128 ≡ t → (b < 128) × (k ≡ char_sort b)
    go true f = let a = ltb-true b 128 f in (a, e ∙ class_of-ascii b a)
    go false f = let z = class_of-beyond b (ltb-false b 128 f) in absurd (let y : ⊥ = omega arith in y)

pub class-beyond : (b k : ℕ) → k ≡ class_of b → 3 ≤ k → 128 ≤ b
class-beyond b k e h = go (ltb b 128) refl
  where
    go : (t : Bool) → ltb b 128 ≡ t → 128 ≤ b
    go true f = let z = class_of-ascii b (ltb-true b 128 f) in let m = char_sort-most b in absurd (let y : ⊥ = omega arith in y)
    go false f = ltb-false b 128 f
