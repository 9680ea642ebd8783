-- Laws of specs/Complex.antt: the multipliers are the nearest f64s to the decimal numbers of the source (`mult-literal`), and one rounded product of a
-- whole number of 24 binary digits and a multiplier near a power of two (`near`, `exact`). The exact product lies between two numbers that an f64
-- holds, q * 2 ^ 8 / 2 ^ k and q * (2 ^ 25 + 3) / 2 ^ (k + 17), and rounding keeps the order. No contract cites this file.
use mathlib.Core.Path.{◌≡◌, refl, sym, ap, ◌∙◌, subst}
use mathlib.Core.Logic.{inl, inr}
use mathlib.Core.Bool.{true, false, not}
use Prim.Native.Nat.{ℕ, zero, suc, ◌*◌, ◌^◌, ◌≤◌, ◌<◌}
use native.Mathlib.Nat.{mul_assoc, mul-one, mul_right_comm, mul-le-mul_left, lt_of_lt_of_le, eq-zero-or-pos, mul-pos, le_trans, le_of_eq}
use native.Mathlib.Omega.{arith}
use lib.Dec.{T, lit<, lit≤}
use lib.Pow.{pow_pos, pow_mono, shl_lt}
use lib.IntN.{pos, negsuc}
use lib.Ieee.{Float, nan, inf, fin, is_nan, binary64, round, of_int, mul, le}
use lib.Ieee.Exact.{HasValue, round_exact}
use lib.Ieee.Back.{round_whole}
use lib.Ieee.Order.{round_mono}
use lib.Ieee.Positive.{num, den, positive, own_value, positive_of_value, values_of_le, between, mul_at}
use Rattle.common.specs.Complex.{mantissa, radix, mult, places, Within, Complex}

-- a value of at most 53 digits, moved up by at most 1082 places, is far below the largest
fine : (q j : ℕ) → q < 2 ^ 53 → j ≤ 1082 → q * 2 ^ j < 2 ^ 2098
fine q j h l = lt_of_lt_of_le (shl_lt 53 j h) (pow_mono {j = 2098} (omega arith))

-- a fraction of at most 53 digits over a power of two D is held exactly
held : (n i D j : ℕ) → n < 2 ^ 53 → 0 < D → 2 ^ i * 2 ^ 1074 ≡ 2 ^ j * D → j ≤ 1082 → HasValue (round binary64 false (n * 2 ^ i) D) false (n * 2 ^ i) D
held n i D j h P p l =
    round_exact binary64 false (n * 2 ^ i) D n j P h (fine n j h l)
    (mul_assoc n (2 ^ i) (2 ^ 1074) ∙ ap (λ (x : ℕ). n * x) p ∙ sym (mul_assoc n (2 ^ j) D))

-- the product, for a whole number above 0
product : (M c d : ℕ) → 0 < M → M ≤ 2 ^ 53 → 0 < c
    → mul binary64 (of_int binary64 (pos M)) (fin false c (negsuc d)) ≡ round binary64 false (M * c) (1 * 2 ^ suc d)
unfolding of_int
product M c d p h C =
    let v : HasValue (round binary64 false M 1) false M 1 = round_whole binary64 false M h in
    let w : HasValue (fin false c (negsuc d)) false c (2 ^ suc d) = (refl, ap (λ (x : ℕ). x * 2 ^ suc d) (mul-one c)) in
    mul_at binary64 (round binary64 false M 1) (fin false c (negsuc d)) M 1 c (2 ^ suc d)
    (positive_of_value (round binary64 false M 1) M 1 v p) (positive_of_value (fin false c (negsuc d)) c (2 ^ suc d) w C) (pow_pos 0) (pow_pos (suc d)) v w

-- ---- at least M / 2 ^ k, and above that by at most one part in 10,000,000
least : (x y : ℕ) → x * 131072 ≤ y * 33554435 → x * 10000000 ≤ y * 256 * 10000001
least x y h = omega arith

within_of : (r : Float) (M c : ℕ) → T (positive r) → M * den r ≤ num r * c → num r * c * 10000000 ≤ M * den r * 10000001 → Within 10000000 r M c
within_of nan M c p l h = absurd p
within_of (inf s) M c p l h = absurd p
within_of (fin true m e) M c p l h = absurd p
within_of (fin false m e) M c p l h = (refl, l, h)

sandwich : (r : Float) (q k : ℕ) → 0 < q → q < 2 ^ 24
    → (lo hi : Float) → HasValue lo false (q * 256) (2 ^ k) → HasValue hi false (q * 33554435) (2 ^ k * 131072) → T (le lo r) → T (le r hi)
    → Within 10000000 r (q * 256) (2 ^ k)
sandwich r q k Q s lo hi vl vh a b =
    let pl : T (positive lo) = positive_of_value lo (q * 256) (2 ^ k) vl (omega arith) in
    let ph : T (positive hi) = positive_of_value hi (q * 33554435) (2 ^ k * 131072) vh (omega arith) in
    let pr : T (positive r) = between lo r hi pl ph a b in
    let x : q * 256 * den r ≤ num r * 2 ^ k = values_of_le lo r (q * 256) (2 ^ k) (num r) (den r) pl pr vl (own_value r pr) a in
    let y : num r * (2 ^ k * 131072) ≤ q * 33554435 * den r = values_of_le r hi (num r) (den r) (q * 33554435) (2 ^ k * 131072) pr ph (own_value r pr) vh b in
    let z : num r * 2 ^ k * 131072 ≤ q * den r * 33554435 =
    le_trans (le_of_eq (mul_assoc (num r) (2 ^ k) 131072)) (le_trans y (le_of_eq (mul_right_comm q 33554435 (den r)))) in
    within_of r (q * 256) (2 ^ k) pr x
    (le_trans (least (num r * 2 ^ k) (q * den r) z) (le_of_eq (ap (λ (t : ℕ). t * 10000001) (mul_right_comm q (den r) 256))))

-- A multiplier c / 2 ^ suc d, between 1 / 2 ^ k and (2 ^ 25 + 3) / 2 ^ (k + 25).
-- All that is asked of it is a test on numbers. j and i only say that 2 ^ k divides the format's range.
module _ (c d k j i : ℕ) (C : 0 < c) (below : 1 * 2 ^ suc d ≤ c * 2 ^ k) (above : 256 * c * (2 ^ k * 131072) ≤ 33554435 * (1 * 2 ^ suc d))
    (ej : 2 ^ 8 * 2 ^ 1074 ≡ 2 ^ j * 2 ^ k) (ei : 2 ^ 0 * 2 ^ 1074 ≡ 2 ^ i * (2 ^ k * 131072)) (lj : j ≤ 1082) (li : i ≤ 1082) where
  positive-near : (q : ℕ) → 0 < q → q < 2 ^ 24 → Within 10000000 (mul binary64 (of_int binary64 (pos (q * 256))) (fin false c (negsuc d))) (q * 256) (2 ^ k)
  positive-near q Q s =
      let r = round binary64 false (q * 256 * c) (1 * 2 ^ suc d) in
      let lo = round binary64 false (q * 256) (2 ^ k) in
      let hi = round binary64 false (q * 33554435 * 1) (2 ^ k * 131072) in
      let D : 0 < 2 ^ k * 131072 = mul-pos (pow_pos k) (lit< tt) in
      let E : 0 < 1 * 2 ^ suc d = mul-pos (lit< tt) (pow_pos (suc d)) in
      let vl : HasValue lo false (q * 256) (2 ^ k) = held q 8 (2 ^ k) j (omega arith) (pow_pos k) ej lj in
      let vh : HasValue hi false (q * 33554435 * 1) (2 ^ k * 131072) = held (q * 33554435) 0 (2 ^ k * 131072) i (omega arith) D ei li in
      let l : q * 256 * (1 * 2 ^ suc d) ≤ q * 256 * c * 2 ^ k = le_trans (mul-le-mul_left (q * 256) below) (le_of_eq (sym (mul_assoc (q * 256) c (2 ^ k)))) in
      let h : q * 256 * c * (2 ^ k * 131072) ≤ q * 33554435 * 1 * (1 * 2 ^ suc d) =
      le_trans (le_of_eq (ap (λ (x : ℕ). x * (2 ^ k * 131072)) (mul_assoc q 256 c) ∙ mul_assoc q (256 * c) (2 ^ k * 131072)))
      (le_trans (mul-le-mul_left q above) (le_of_eq (sym (mul_assoc q 33554435 (1 * 2 ^ suc d))
      ∙ ap (λ (x : ℕ). x * (1 * 2 ^ suc d)) (sym (mul-one (q * 33554435)))))) in
      subst (λ (x : Float). Within 10000000 x (q * 256) (2 ^ k)) (sym (product (q * 256) c d (omega arith) (omega arith) C))
      (sandwich r q k Q s lo hi vl (subst (λ (x : ℕ). HasValue hi false x (2 ^ k * 131072)) (mul-one (q * 33554435)) vh)
      (round_mono binary64 (q * 256) (2 ^ k) (q * 256 * c) (1 * 2 ^ suc d) (pow_pos k) E l)
      (round_mono binary64 (q * 256 * c) (1 * 2 ^ suc d) (q * 33554435 * 1) (2 ^ k * 131072) E D h))

  near-all : Within 10000000 (mul binary64 (of_int binary64 (pos 0)) (fin false c (negsuc d))) 0 (2 ^ k)
      → (q : ℕ) → q < 2 ^ 24 → Within 10000000 (mul binary64 (of_int binary64 (pos (q * 256))) (fin false c (negsuc d))) (q * 256) (2 ^ k)
  near-all none q s =
      elim (eq-zero-or-pos q) [
        | inl e ↦ subst (λ (x : ℕ). Within 10000000 (mul binary64 (of_int binary64 (pos (x * 256))) (fin false c (negsuc d))) (x * 256) (2 ^ k)) (sym e) none
        | inr p ↦ positive-near q p s
      ]

-- ---- the four multipliers
pub near : (ρ q : ℕ) → q < 2 ^ 24 → Within 10000000 (mul binary64 (of_int binary64 (pos (q * 256))) (mult ρ)) (q * 256) (2 ^ places ρ)
unfolding mul of_int
near zero = near-all 1 7 8 1074 1049 (lit< tt) (lit≤ tt) (lit≤ tt) refl refl (lit≤ tt) (lit≤ tt) (refl, lit≤ tt, lit≤ tt)
near (suc zero) = near-all 4503599904071657 66 15 1067 1042 (lit< tt) (lit≤ tt) (lit≤ tt) refl refl (lit≤ tt) (lit≤ tt) (refl, lit≤ tt, lit≤ tt)
near (suc (suc zero)) = near-all 4503600022130819 74 23 1059 1034 (lit< tt) (lit≤ tt) (lit≤ tt) refl refl (lit≤ tt) (lit≤ tt) (refl, lit≤ tt, lit≤ tt)
near (suc (suc (suc ρ))) = near-all 2251799875061255 81 31 1051 1026 (lit< tt) (lit≤ tt) (lit≤ tt) refl refl (lit≤ tt) (lit≤ tt) (refl, lit≤ tt, lit≤ tt)

-- ---- radix 0 is exact
exact-positive : (q : ℕ) → 0 < q → q < 2 ^ 24 → HasValue (mul binary64 (of_int binary64 (pos (q * 256))) (mult 0)) false (q * 256) 256
exact-positive q Q s =
    subst (λ (x : Float). HasValue x false (q * 256) 256) (sym (product (q * 256) 1 7 (omega arith) (omega arith) (lit< tt)))
    (subst (λ (x : ℕ). HasValue (round binary64 false x 256) false (q * 256) 256) (sym (mul-one (q * 256)))
    (held q 8 256 1074 (omega arith) (lit< tt) refl (lit≤ tt)))

exact-zero : HasValue (mul binary64 (of_int binary64 (pos 0)) (mult 0)) false 0 256
unfolding mul of_int
exact-zero = (refl, refl)

pub exact : (q : ℕ) → q < 2 ^ 24 → HasValue (mul binary64 (of_int binary64 (pos (q * 256))) (mult 0)) false (q * 256) 256
exact q s =
    elim (eq-zero-or-pos q) [
      | inl e ↦ subst (λ (x : ℕ). HasValue (mul binary64 (of_int binary64 (pos (x * 256))) (mult 0)) false (x * 256) 256) (sym e) exact-zero
      | inr p ↦ exact-positive q p s
    ]

pub lossless : (M : ℕ) → M ≤ 2 ^ 53 → HasValue (of_int binary64 (pos M)) false M 1
unfolding of_int
lossless M h = round_whole binary64 false M h

-- ---- the decimal numbers of the source
pub mult-literal :
    (mult 0 ≡ round binary64 false 390625 (10 ^ 8))
    × (mult 1 ≡ round binary64 false 3051758 (10 ^ 11))
    × (mult 2 ≡ round binary64 false 1192093 (10 ^ 13))
    × (mult 3 ≡ round binary64 false 4656613 (10 ^ 16))
unfolding round
mult-literal = (refl, refl, refl, refl)

-- what is multiplied and by what settles the value
pub Complex-unique : (d : ℕ) (r r' : Float) → Complex d r → Complex d r' → r ≡ r'
Complex-unique d r r' a b = a.product ∙ sym b.product

-- it is never a NaN, so its bits may be read
within-number : (n : ℕ) (r : Float) (a c : ℕ) → Within n r a c → T (not (is_nan r))
unfolding is_nan
within-number n nan a c w = absurd w
within-number n (inf s) a c w = absurd w
within-number n (fin s m e) a c w = tt

pub Complex-number : (d : ℕ) (r : Float) → Complex d r → T (not (is_nan r))
Complex-number d r h = within-number 10000000 r (mantissa d) (2 ^ places (radix d)) h.near
