-- Laws of specs/Digits.antt as the code needs them: the equations of each recursion. Not here: what a text stands for (proofs/Decimal.antt,
-- proofs/Signed.antt, proofs/Hex.antt).
use Prim.Native.Nat.{ℕ, zero, suc, ◌+◌, ◌-◌, ◌*◌, ◌/◌, ◌%◌, ◌^◌, ◌≤◌, ◌<◌}
use mathlib.Core.Path.{◌≡◌, refl, ap, sym, ◌∙◌}
use mathlib.Core.Bool.{Bool, true, false, cond}
use mathlib.Core.List.{[], ◌∷◌, ◌++◌}
use native.Mathlib.Omega.{arith}
use native.Mathlib.Nat.{mod-eq_of_lt, div-div-eq-div-mul}
use native.Mathlib.Numerals.{add-one, sub-one}
use borrow.Author.Tests.{lt-ltb, le-ltb, ltb-true}
use lib.Bits.{bit_and, and_mask}
use lib.Dec.{ltb}
use lib.IntN.{ℤ, pos, negsuc, nat_abs}
use lib.ListN.{length, length-append}
use lib.Signed.{lt_z}
use mir.Syntax.{w32}
use mir.Val.{SFits, to_z, of_z}
use Rattle.std.proofs.Math.Facts.{to_z-of_z}
use Rattle.std.proofs.lemmas.Nat.{pow-add}
use Rattle.digits.specs.Digits.{digits, decimal, signed, signed_text, hex_digit, hex_digits}

-- ---- decimal

pub digits_lt : (k n : ℕ) → n < 10 → digits k n ≡ (48 + n % 10) ∷ []
unfolding digits
digits_lt zero n h = refl
digits_lt (suc k) n h = rw (lt-ltb n 10 h, mod-eq_of_lt h)

pub digits-suc : (k n : ℕ) → 10 ≤ n → digits (suc k) n ≡ digits k (n / 10) ++ ((48 + n % 10) ∷ [])
unfolding digits
digits-suc k n h = rw (le-ltb n 10 h)

pub digits_step : (k n : ℕ) → 0 < k → 10 ≤ n → digits k n ≡ digits (k - 1) (n / 10) ++ ((48 + n % 10) ∷ [])
digits_step zero n z h = absurd (let f : ⊥ = omega arith in f)
digits_step (suc k) n z h = rw sub-one (digits-suc k n h)

pub digits_le : (k n : ℕ) → length (digits k n) ≤ k + 1
unfolding digits
digits_le zero n = omega arith
digits_le (suc k) n = go (ltb n 10) (digits_le k (n / 10)) where
  go : (t : Bool) → length (digits k (n / 10)) ≤ k + 1 →
      length (cond t ((48 + n) ∷ []) (digits k (n / 10) ++ ((48 + n % 10) ∷ []))) ≤ suc k + 1
  go true h = omega arith
  go false h = rw length-append (omega arith)

-- at most 20 digits
pub decimal-le : (n : ℕ) → length (decimal n) ≤ 20
decimal-le n = digits_le 19 n

-- ---- a sign

signed-minus : (z : ℤ) → lt_z z (pos 0) ≡ true → 45 ∷ decimal (nat_abs z) ≡ signed z
signed-minus (pos n) h = absurd (let l : n < 0 = ltb-true n 0 h in let f : ⊥ = omega arith in f)
signed-minus (negsuc n) h = rw add-one

signed-plain : (z : ℤ) → lt_z z (pos 0) ≡ false → decimal (nat_abs z) ≡ signed z
signed-plain (pos n) h = refl
signed-plain (negsuc n) h = cc

-- the tests and the number as the code has them: r is the word read as an i32
pub signed_text-minus :
    (n : ℕ) {m : ℕ} {r : ℤ} → r ≡ to_z w32 n → SFits w32 r → lt_z (to_z w32 (of_z w32 r)) (pos 0) ≡ true → m ≡ nat_abs (to_z w32 (of_z w32 r)) →
    45 ∷ decimal m ≡ signed_text n
unfolding signed_text
signed_text-minus n {m} {r} e f h k =
    rw (k, to_z-of_z f) (signed-minus r (rw (to_z-of_z f) at h) ∙ ap signed e)

pub signed_text-plain :
    (n : ℕ) {m : ℕ} {r : ℤ} → r ≡ to_z w32 n → SFits w32 r → lt_z (to_z w32 (of_z w32 r)) (pos 0) ≡ false → m ≡ nat_abs (to_z w32 (of_z w32 r)) →
    decimal m ≡ signed_text n
unfolding signed_text
signed_text-plain n {m} {r} e f h k =
    rw (k, to_z-of_z f) (signed-plain r (rw (to_z-of_z f) at h) ∙ ap signed e)

-- ---- hexadecimal

pub hex_digits-suc : (k n : ℕ) → hex_digits (suc k) n ≡ hex_digits k (n / 16) ++ (hex_digit (n % 16) ∷ [])
unfolding hex_digits
hex_digits-suc k n = refl

-- one digit more, as the code computes it: the last k - 1 are left
pub hex_digits-next :
    (n k d : ℕ) → 0 < k → k ≤ 8 → d ≡ hex_digit (bit_and (n / 2 ^ (4 * (k - 1))) 15) →
    hex_digits (8 - k) (n / 2 ^ (4 * k)) ++ (d ∷ []) ≡ hex_digits (8 - (k - 1)) (n / 2 ^ (4 * (k - 1)))
hex_digits-next n k d h l e =
    let a : 8 - (k - 1) ≡ suc (8 - k) = omega arith in
    let b : 4 * k ≡ 4 * (k - 1) + 4 = omega arith in
    let q : n / 2 ^ (4 * k) ≡ n / 2 ^ (4 * (k - 1)) / 16 =
    rw (b, pow-add 2 (4 * (k - 1)) 4) (sym (div-div-eq-div-mul n (2 ^ (4 * (k - 1))) 16)) in
    rw (a, q, e, and_mask (n / 2 ^ (4 * (k - 1))) 4) (sym (hex_digits-suc (8 - k) (n / 2 ^ (4 * (k - 1)))))

-- none at first
pub hex_digits-none : (n : ℕ) → hex_digits 0 n ≡ []
unfolding hex_digits
hex_digits-none n = refl
