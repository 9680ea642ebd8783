-- What decimal digits stand for. No contract cites this file.
-- In order: one digit, no leading zero, how many digits are enough, and that a number is read back from its digits, so that two numbers never share them.
-- A number of 64 bits is below 10 ^ 20, so `decimal` shows all of it.
use Prim.Native.Nat.{ℕ, zero, suc, ◌+◌, ◌-◌, ◌*◌, ◌^◌, ◌/◌, ◌%◌, ◌≤◌, ◌<◌}
use mathlib.Core.Path.{◌≡◌, refl, sym, ◌∙◌, ap}
use mathlib.Core.Bool.{Bool, true, false}
use mathlib.Core.List.{List, [], ◌∷◌, ◌++◌}
use native.Mathlib.Omega.{arith}
use native.Mathlib.Nat.{mod-eq_of_lt, pow-suc}
use borrow.Author.Tests.{ltb-true, ltb-false}
use lib.Dec.{ltb}
use lib.ListN.{length, get_or, length-append, get_or-append}
use Rattle.digits.proofs.Back.{number_from}
use Rattle.digits.specs.Digits.{digits, decimal}
use Rattle.digits.proofs.Laws.{digits_lt, digits-suc, digits_step, digits_le}

-- a number below 10, or one with a digit before its last
module _ (P : ℕ → ℕ → Type 0) (one : (k n : ℕ) → n < 10 → P k n) (more : (k n : ℕ) → 10 ≤ n → P k (n / 10) → P (suc k) n) where
  step : (k n : ℕ) (t : Bool) → ltb n 10 ≡ t → P k (n / 10) → P (suc k) n
  step k n true e h = one (suc k) n (ltb-true n 10 e)
  step k n false e h = more k n (ltb-false n 10 e) h

  -- what holds of one digit, and of a number where it holds of its tenth, holds of each number that k + 1 digits show
  pub digits-ind : (k n : ℕ) → n < 10 ^ suc k → P k n
  digits-ind zero n h = one zero n (omega (arith, h))
  digits-ind (suc k) n h = step k n (ltb n 10) refl (digits-ind k (n / 10) (let e : n < 10 ^ suc k * 10 = rw (pow-suc 10 (suc k)) at h in omega arith))

-- ---- one digit

pub decimal-lt : (n : ℕ) → n < 10 → decimal n ≡ (48 + n) ∷ []
decimal-lt n h = digits_lt 19 n h ∙ rw (mod-eq_of_lt h)

-- ---- no leading zero: 48 is the digit 0

digits-pos : (k n : ℕ) → 0 < length (digits k n)
unfolding digits
digits-pos zero n = omega arith
digits-pos (suc k) n = go (ltb n 10) refl where
  go : (t : Bool) → ltb n 10 ≡ t → 0 < length (digits (suc k) n)
  go true e = rw (digits_lt (suc k) n (ltb-true n 10 e)) (omega arith)
  go false e = rw (digits-suc k n (ltb-false n 10 e), length-append) (omega arith)

pub get_d-digits-lt : (k n : ℕ) → n < 10 ^ suc k → 0 < n → 48 < get_or (digits k n) 0 0
get_d-digits-lt k n h =
    digits-ind (λ k n. 0 < n → 48 < get_or (digits k n) 0 0)
    (λ k n s z. rw (digits_lt k n s, mod-eq_of_lt s) (omega arith))
    (λ k n s p z. rw (digits-suc k n s, get_or-append (digits k (n / 10)) _ 0 0 (digits-pos k (n / 10))) (p (omega arith)))
    k n h

pub get_d-decimal-lt : (n : ℕ) → n < 10 ^ 20 → 0 < n → 48 < get_or (decimal n) 0 0
get_d-decimal-lt n h z = get_d-digits-lt 19 n h z

-- a digit at least stands in front, and not `-`
pub get_d-digits-digit : (k n : ℕ) → n < 10 ^ suc k → 45 < get_or (digits k n) 0 0
get_d-digits-digit =
    digits-ind (λ k n. 45 < get_or (digits k n) 0 0)
    (λ k n s. rw (digits_lt k n s, mod-eq_of_lt s) (omega arith))
    (λ k n s p. rw (digits-suc k n s, get_or-append (digits k (n / 10)) _ 0 0 (digits-pos k (n / 10))) p)

-- ---- more digits than enough change nothing

pub digits-enough : (j n : ℕ) → n < 10 ^ suc j → (k : ℕ) → j ≤ k → digits j n ≡ digits k n
digits-enough =
    digits-ind (λ j n. (k : ℕ) → j ≤ k → digits j n ≡ digits k n)
    (λ j n s k h. digits_lt j n s ∙ sym (digits_lt k n s))
    (λ j n s p k h. rw (digits-suc j n s, digits_step k n (omega arith) s, p (k - 1) (omega arith)))

-- a number of 64 bits is a tenth of it, and its last digit
pub decimal-step : (n : ℕ) → 10 ≤ n → n < 10 ^ 20 → decimal n ≡ decimal (n / 10) ++ ((48 + n % 10) ∷ [])
decimal-step n h l =
    let e : n / 10 < 10 ^ suc 18 = omega (arith, l) in
    digits-suc 18 n h ∙ ap (λ (s : List ℕ). s ++ ((48 + n % 10) ∷ [])) (digits-enough 18 (n / 10) e 19 (omega arith))

-- a number of 32 bits has ten digits at most
pub decimal-word : (n : ℕ) → n < 4294967296 → length (decimal n) ≤ 10
decimal-word n h =
    let e : n < 10 ^ suc 9 = omega (arith, h) in
    rw (← digits-enough 9 n e 19 (omega arith)) (digits_le 9 n)

-- ---- read back

number_from-append : (v d : ℕ) (ds : List ℕ) → number_from v (ds ++ (d ∷ [])) ≡ number_from v ds * 10 + (d - 48)
unfolding number_from
number_from-append v d [] = refl
number_from-append v d (x ∷ ds) = number_from-append (v * 10 + (x - 48)) d ds

number_from-one : (n : ℕ) → number_from 0 ((48 + n) ∷ []) ≡ n
unfolding number_from
number_from-one n = omega arith

pub digits-back : (k n : ℕ) → n < 10 ^ suc k → number_from 0 (digits k n) ≡ n
digits-back =
    digits-ind (λ k n. number_from 0 (digits k n) ≡ n)
    (λ k n s. rw (digits_lt k n s, mod-eq_of_lt s) (number_from-one n))
    (λ k n s p. rw (digits-suc k n s, number_from-append 0 (48 + n % 10) (digits k (n / 10)), p) (omega arith))

pub decimal-back : (n : ℕ) → n < 10 ^ 20 → number_from 0 (decimal n) ≡ n
decimal-back n h = digits-back 19 n h

pub decimal-unique : (a b : ℕ) → a < 10 ^ 20 → b < 10 ^ 20 → decimal a ≡ decimal b → a ≡ b
decimal-unique a b ha hb e = sym (decimal-back a ha) ∙ ap (number_from 0) e ∙ decimal-back b hb
