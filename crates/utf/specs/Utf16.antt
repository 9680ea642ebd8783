-- UTF-16 at the front of a list of bytes, each unit the low byte first: The Unicode Standard, chapter 3, Table 3-5, definitions D72, D74, D75 and D91.
--
--   unit       the unit that stands at a place of the bytes; past the end a byte reads as 0, so that a unit there is no surrogate
--   pair_of     a unit and the one after it: a high surrogate and a low one are one scalar value of 4 bytes; a surrogate that is not in such a
--              pair is bad; any other unit is its own value, of 2 bytes
--   step16     the step at the front; a byte alone at the end is bad, `End` of no bytes
--   spell16    a scalar value in UTF-16: its own unit, and from 10000 hexadecimal on a high surrogate and a low one; spell_all values one by one
use Rattle.std.specs.Prelude.{ℕ, ◌+◌, ◌-◌, ◌*◌, ◌/◌, ◌%◌, cond, List, [], ◌∷◌, ◌++◌, ltb, length, get_or}
use Rattle.utf.specs.Utf8.{inside}
use Rattle.utf.specs.declared.Step.{Step}
use Rattle.utf.specs.declared.Step.TheVariants.{Scalar, Bad, End}

unfoldable pub unit : List ℕ → ℕ → ℕ
unit s at = get_or s at 0 + get_or s (at + 1) 0 * 256

unfoldable pub pair_of : ℕ → ℕ → Step
pair_of u w =
    cond (inside 0xd800 0xdbff u) (cond (inside 0xdc00 0xdfff w) (Scalar (0x10000 + (u - 0xd800) * 1024 + (w - 0xdc00)) 4) (Bad 2))
    (cond (inside 0xdc00 0xdfff u) (Bad 2) (Scalar u 2))

unfoldable pub step16 : List ℕ → Step
unfolding pair_of unit
step16 s = cond (ltb 1 (length s)) (pair_of (unit s 0) (unit s 2)) (cond (ltb 0 (length s)) (Bad 1) End)

-- ---- from the value to its bytes

unfoldable pub spell_pair : ℕ → ℕ → List ℕ
spell_pair u w = u % 256 ∷ u / 256 ∷ w % 256 ∷ w / 256 ∷ []

unfoldable pub spell16 : ℕ → List ℕ
unfolding spell_pair
spell16 v = cond (ltb v 0x10000) (v % 256 ∷ v / 256 ∷ []) (spell_pair (0xd800 + (v - 0x10000) / 1024) (0xdc00 + (v - 0x10000) % 1024))

unfoldable pub spell_all : List ℕ → List ℕ
unfolding spell16
spell_all [] = []
spell_all (v ∷ vs) = spell16 v ++ spell_all vs
