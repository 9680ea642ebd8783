-- Numbers as text, each digit a byte of ASCII: docs/FORMAT.md, L2.
--
--   decimal      a number in decimal digits, without leading zeros; 0 is `0`
--   signed       a whole number of either sign in decimal; a negative one has `-` before it
--   signed_text   a word of 32 bits read as an i32: from 2 ^ 31 on it is negative, 2 ^ 32 - 1 is `-1`
--   hex_text      a word of 32 bits in eight hexadecimal digits, lower case, leading zeros among them
--
-- What number a text stands for: proofs/Back.antt. That each text stands for its number: proofs/Decimal.antt, proofs/Signed.antt, proofs/Hex.antt.
use Rattle.std.specs.Prelude.{ℕ, zero, suc, ◌+◌, ◌/◌, ◌%◌, cond, List, [], ◌∷◌, ◌++◌, ltb, ℤ, pos, negsuc}
use Rattle.std.specs.Int.{w32}
use Rattle.std.proofs.Common.{to_z}

-- the last k + 1 digits at most: numbers of 64 bits have 20
unfoldable pub digits : ℕ → ℕ → List ℕ
digits zero n = (48 + n % 10) ∷ []
digits (suc k) n = cond (ltb n 10) ((48 + n) ∷ []) (digits k (n / 10) ++ ((48 + n % 10) ∷ []))

abbrev pub decimal : ℕ → List ℕ
decimal n = digits 19 n

-- 45 is `-`; `negsuc n` is -(n + 1)
abbrev pub signed : ℤ → List ℕ
signed (pos n) = decimal n
signed (negsuc n) = 45 ∷ decimal (n + 1)

unfoldable pub signed_text : ℕ → List ℕ
unfolding digits
signed_text n = signed (to_z w32 n)

-- `0` to `9`, `a` to `f`
abbrev pub hex_digit : ℕ → ℕ
hex_digit d = cond (ltb d 10) (48 + d) (87 + d)

-- the last k digits, the highest first
unfoldable pub hex_digits : ℕ → ℕ → List ℕ
hex_digits zero n = []
hex_digits (suc k) n = hex_digits k (n / 16) ++ (hex_digit (n % 16) ∷ [])

abbrev pub hex_text : ℕ → List ℕ
hex_text n = hex_digits 8 n
