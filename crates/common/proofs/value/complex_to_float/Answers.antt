-- `common::complex_to_float` meets its contract: the table that the code holds is `mult`, and the rest is proofs/Product.antt.
use mathlib.Core.Path.{◌≡◌, refl, sym, subst}
use mathlib.Core.Bool.{false}
use mathlib.Core.List.{List, [], ◌∷◌}
use Prim.Native.Nat.{ℕ, zero, suc, ◌/◌, ◌^◌, ◌<◌}
use native.Mathlib.Omega.{arith}
use lib.IntN.{pos}
use lib.ListN.{get_or}
use lib.Ieee.{Float, nan, binary64, of_bits, mul, of_int}
use lib.Ieee.Exact.{HasValue}
use Rattle.common.specs.Complex.{mantissa, radix, mult, Complex}
use Rattle.common.proofs.Product.{lossless, near, exact}
use Rattle.common.proofs.value.complex_to_float.Goals as goal

-- the table, as MIR has it, by bit patterns
table : List Float
unfolding of_bits
table =
    of_bits binary64 0x3f70000000000000
    ∷ of_bits binary64 0x3f000000107e1fe9
    ∷ of_bits binary64 0x3e80000017879083
    ∷ of_bits binary64 0x3e00000007510c0e
    ∷ []

entry : (ρ : ℕ) → ρ < 4 → get_or table ρ nan ≡ mult ρ
unfolding table of_bits
entry zero h = refl
entry (suc zero) h = refl
entry (suc (suc zero)) h = refl
entry (suc (suc (suc zero))) h = refl
entry (suc (suc (suc (suc ρ)))) h = absurd (let z : ⊥ = omega arith in z)

met : (d : ℕ) → d < 2 ^ 32 → Complex d (mul binary64 (of_int binary64 (pos (mantissa d))) (mult (radix d)))
met d h = record {
  cast = lossless (mantissa d) (omega arith);
  product = refl;
  exact = λ e. subst (λ (ρ : ℕ). HasValue (mul binary64 (of_int binary64 (pos (mantissa d))) (mult ρ)) false (mantissa d) 256) (sym e)
      (exact (d / 256) (omega arith));
  near = near (radix d) (d / 256) (omega arith);
}

pub returns : goal.returns
unfolding table
returns c =
    let d = c.args.«data» in
    subst (λ (x : Float). Complex d (mul binary64 (of_int binary64 (pos (mantissa d))) x)) (sym (entry (radix d) (omega arith)))
    (met d c.ranges.«data».fits)
