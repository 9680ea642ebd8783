-- The complex value of a u32, as a dimension or a fraction holds it: docs/FORMAT.md, X1 to X3.
--
--   mantissa   M, the number with its low 8 bits cleared, never negative
--   radix      bits 4 and 5
--   mult       what the table of four f64s holds for a radix, each as the number that it is, m * 2 ^ -k; the last for 3 and above
--   places     how many binary places the power of two has that mult stands for: 8, 15, 23, 31
--   Within     x is finite, not negative, at least a / c, and above that by at most one part in n
--   Complex    r is the complex value of d, and what is known of it
--
-- Android reads M as signed and uses exact powers of two: docs/DIFFERENCES.md. Floats are IEEE 754 binary64 (lib.Ieee). Laws: proofs/Product.antt.
use Rattle.std.specs.Prelude.{◌≡◌, false, ℕ, zero, suc, ◌+◌, ◌*◌, ◌/◌, ◌%◌, ◌^◌, ◌≤◌, pos, negsuc, Float}
use Rattle.std.specs.Float.Ieee.Exact.{HasValue}
use Rattle.std.specs.Float.{nan, inf, fin, binary64}
use Rattle.std.specs.Float.Ieee.{of_int, mul, up, down}

abbrev pub mantissa : ℕ → ℕ
mantissa d = d / 256 * 256

abbrev pub radix : ℕ → ℕ
radix d = d / 16 % 4

-- 0.00390625, 3.051758e-005, 1.192093e-007, 4.656613e-010: `fin false m (negsuc n)` is m * 2 ^ -(n + 1)
abbrev pub mult : ℕ → Float
mult zero = fin false 1 (negsuc 7)
mult (suc zero) = fin false 4503599904071657 (negsuc 66)
mult (suc (suc zero)) = fin false 4503600022130819 (negsuc 74)
mult (suc (suc (suc r))) = fin false 2251799875061255 (negsuc 81)

abbrev pub places : ℕ → ℕ
places zero = 8
places (suc zero) = 15
places (suc (suc zero)) = 23
places (suc (suc (suc r))) = 31

abbrev pub Within : ℕ → Float → ℕ → ℕ → Type 0
Within n nan a c = ⊥
Within n (inf s) a c = ⊥
Within n (fin s m e) a c = (s ≡ false) × (a * down e ≤ m * up e * c) × (m * up e * c * n ≤ a * down e * (n + 1))

-- M is cast without loss and multiplied by the table's f64 with one rounding; radix 0 gives M / 2 ^ 8 exactly; every radix gives at least
-- M / 2 ^ places, and above that at most one part in 10,000,000
pub record Complex (d : ℕ) (r : Float) : Type 0 where
  pub cast : HasValue (of_int binary64 (pos (mantissa d))) false (mantissa d) 1
  pub product : r ≡ mul binary64 (of_int binary64 (pos (mantissa d))) (mult (radix d))
  pub exact : radix d ≡ 0 → HasValue r false (mantissa d) 256
  pub near : Within 10000000 r (mantissa d) (2 ^ places (radix d))
