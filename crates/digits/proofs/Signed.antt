-- What a signed decimal stands for: a word read back is its i32 view, so that two words never share a text. No contract cites this file.
use Prim.Native.Nat.{ℕ, suc, ◌+◌, ◌-◌, ◌^◌, ◌<◌}
use mathlib.Core.Path.{◌≡◌, refl, ◌∙◌, ap}
use mathlib.Core.Bool.{Bool, true, false}
use mathlib.Core.List.{List, [], ◌∷◌}
use native.Mathlib.Omega.{arith}
use native.Mathlib.Numerals.{add-one}
use borrow.Author.Tests.{ne_eqb}
use lib.Dec.{ltb}
use lib.ListN.{get_or}
use lib.IntN.{ℤ, pos, negsuc}
use mir.Syntax.{w32}
use mir.Val.{to_z}
use Rattle.digits.proofs.Back.{number_from, minus, signed_of}
use Rattle.digits.specs.Digits.{decimal, signed, signed_text}
use Rattle.digits.proofs.Decimal.{get_d-digits-digit, decimal-back}

signed_of-plain : (l : List ℕ) → 45 < get_or l 0 0 → signed_of l ≡ pos (number_from 0 l)
unfolding signed_of
signed_of-plain [] h = absurd (let f : ⊥ = omega arith in f)
signed_of-plain (d ∷ ds) h = rw (ne_eqb d 45 (λ e. let f : ⊥ = omega arith in f))

signed_of-minus : (ds : List ℕ) → signed_of (45 ∷ ds) ≡ minus (number_from 0 ds)
unfolding signed_of
signed_of-minus ds = refl

-- the digits of a number without its sign are at most 20
abbrev pub Shown : ℤ → Type 0
Shown (pos n) = n < 10 ^ 20
Shown (negsuc n) = n + 1 < 10 ^ 20

pub signed_back : (z : ℤ) → Shown z → signed_of (signed z) ≡ z
signed_back (pos n) h = signed_of-plain (decimal n) (get_d-digits-digit 19 n h) ∙ ap pos (decimal-back n h)
signed_back (negsuc n) h = signed_of-minus (decimal (n + 1)) ∙ ap minus (decimal-back (n + 1) h ∙ add-one n)

pub signed_text-back : (n : ℕ) → n < 4294967296 → signed_of (signed_text n) ≡ to_z w32 n
unfolding signed_text
signed_text-back n h = go (ltb n 2147483648) refl where
  go : (t : Bool) → ltb n 2147483648 ≡ t → signed_of (signed (to_z w32 n)) ≡ to_z w32 n
  go true e = signed_back (to_z w32 n) (rw e (let f : n < 10 ^ 20 = omega (arith, h) in f))
  go false e = signed_back (to_z w32 n) (rw e (let f : 4294967296 - suc n + 1 < 10 ^ 20 = omega (arith, h) in f))
