-- What number a text of digits stands for: no promise cites it, and it is the measure by which specs/Digits.antt can be checked.
--
--   number_from   the number of decimal digits behind the number v; of none, v
--   signed_of     the number of decimal digits, negative where `-` stands before them
--   hex_from      the number of lower-case hexadecimal digits behind the number v; of none, v
use Prim.Native.Nat.{ℕ, zero, suc, ◌+◌, ◌-◌, ◌*◌}
use mathlib.Core.Bool.{cond}
use mathlib.Core.List.{List, [], ◌∷◌}
use lib.Dec.{eqb, ltb}
use lib.IntN.{ℤ, pos, negsuc}

unfoldable pub number_from : ℕ → List ℕ → ℕ
number_from v [] = v
number_from v (d ∷ ds) = number_from (v * 10 + (d - 48)) ds

-- minus n
abbrev pub minus : ℕ → ℤ
minus zero = pos 0
minus (suc n) = negsuc n

unfoldable pub signed_of : List ℕ → ℤ
unfolding number_from
signed_of [] = pos 0
signed_of (d ∷ ds) = cond (eqb d 45) (minus (number_from 0 ds)) (pos (number_from 0 (d ∷ ds)))

-- the value of a digit: `0` is 48, `a` is 97
abbrev pub hex_value : ℕ → ℕ
hex_value d = cond (ltb d 97) (d - 48) (d - 87)

unfoldable pub hex_from : ℕ → List ℕ → ℕ
hex_from v [] = v
hex_from v (d ∷ ds) = hex_from (v * 16 + hex_value d) ds
