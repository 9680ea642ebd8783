-- Chars of a name that their bytes tell, so that nothing is decoded: XML 1.0 (Fifth Edition), productions [4] NameStartChar and [4a] NameChar, against
-- the bytes of The Unicode Standard 16.0, chapter 3, Table 3-6 (bytes of a value) and Table 3-7 (well-formed UTF-8). Only the contracts of inner
-- functions cite this file; proofs/SeenChars.antt shows that each of these is a char of a name.
--
-- UTF-16, a unit of two bytes, the low one first:
--   ascii_low      the low byte of a unit of ASCII that is a char of a name; the high byte is 0. Of UTF-8: the byte itself
--   far_high       a high byte of which every unit is a NameStartChar: U+0400 to U+1FFF, U+3100 to U+D7FF
--   UnitChar      a unit of a low byte and a high one that is no surrogate, and a char of a name
-- UTF-8, where every such sequence is well-formed:
--   is_trail       a byte behind the first one: 80 to BF
--   pair_lead      a first byte of two, of which every char is a NameChar: C4 to CC, U+0100 to U+033F; CE to DF, U+0380 to U+07FF. CD is none: U+037E
--                 is no char
--   latin_pair     C3 and a second byte but 97 and B7: U+00C0 to U+00FF without U+00D7 and U+00F7
--   is_pair        two bytes of either sort
--   triple_lead    a first byte of three: E1, and E3 to EC
--   triple_second  the second byte of three: 81 to BF. So of each first byte the chars are all NameStartChar: of E1 U+1040 to U+1FFF, of E3 U+3040 to
--                 U+3FFF, and so on, of EC U+C040 to U+CFFF. 80 is left out since U+3000, E3 80 80, is no char
--   is_triple      such a first byte, such a second, and a third of 80 to BF
use Rattle.std.specs.Prelude.{◌≡◌, ℕ, ◌+◌, ◌*◌, ◌/◌, Bool, not, ◌&&◌, ◌||◌, eqb, ltb}
use Rattle.utf.specs.Utf8.{inside}
use Rattle.xml.specs.NCName.{is_char, char_sort}

-- ---- UTF-16

unfoldable pub ascii_low : ℕ → Bool
unfolding is_char
ascii_low b = ltb b 128 && is_char b

unfoldable pub far_high : ℕ → Bool
far_high b = inside 0x04 0x1f b || inside 0x31 0xd7 b

pub record UnitChar (b c : ℕ) : Type 0 where
  pub alone : c / 8 ≡ 27 → ⊥
  pub char : char_sort (b + c * 256) ≡ 0 → ⊥

-- ---- UTF-8

unfoldable pub is_trail : ℕ → Bool
is_trail b = inside 0x80 0xbf b

unfoldable pub pair_lead : ℕ → Bool
pair_lead b = inside 0xc4 0xcc b || inside 0xce 0xdf b

unfoldable pub latin_pair : ℕ → ℕ → Bool
latin_pair b c = (eqb b 0xc3 && not (eqb c 0x97)) && not (eqb c 0xb7)

unfoldable pub is_pair : ℕ → ℕ → Bool
unfolding is_trail pair_lead latin_pair
is_pair b c = is_trail c && (pair_lead b || latin_pair b c)

unfoldable pub triple_lead : ℕ → Bool
triple_lead b = eqb b 0xe1 || inside 0xe3 0xec b

unfoldable pub triple_second : ℕ → Bool
triple_second b = inside 0x81 0xbf b

unfoldable pub is_triple : ℕ → ℕ → ℕ → Bool
unfolding triple_lead triple_second is_trail
is_triple b c d = (triple_lead b && triple_second c) && is_trail d
