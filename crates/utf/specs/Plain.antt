-- Texts that no other bytes in the same encoding are, so that bytes can be compared in place of texts (`plain-same` of proofs/PlainLaws.antt).
--
--   is_ascii    each byte is below 80 hexadecimal
--   is_plain    in UTF-8 ASCII, and in UTF-16 any text that is not empty: the empty text is that of all that is refused too
--   Known      where the flag is true, the fact holds; where it is false, nothing is known
use Rattle.std.specs.Prelude.{ℕ, ◌≡◌, Bool, true, false, not, ◌&&◌, List, [], ◌∷◌, ltb}
use Rattle.utf.specs.Text.{text_of, eq_bytes}

unfoldable pub is_ascii : List ℕ → Bool
is_ascii [] = true
is_ascii (b ∷ s) = ltb b 0x80 && is_ascii s

abbrev pub is_plain : Bool → List ℕ → Bool
is_plain true s = not (eq_bytes [] (text_of true s))
is_plain false s = is_ascii s

pub record Known (flag fact : Bool) : Type 0 where
  pub holds : flag ≡ true → fact ≡ true
