-- Names: XML 1.0 (Fifth Edition), productions [4] NameStartChar and [4a] NameChar, without ':', which Namespaces in XML 1.0 leaves out
-- (its production [4], NCName ::= Name - (Char* ':' Char*)).
--
--   name_start  the ranges of NameStartChar, a first and a last number each, in the standard's order
--   name_more   the ranges that NameChar has besides
--   is_start    the value is in one of the first; is_char: in one of either
--   char_sort   1 first or later in a name, 2 later only, 0 in none
--   class_of    the same of a byte that is ASCII, and 3 of a byte beyond it
--   valid_name  the text is an NCName: not empty, its first value a start, each other one a char. U+FFFD, which stands for damaged UTF-8, is a
--              start; UTF-16 with an unpaired surrogate is the empty text, and so is no name
use Rattle.std.specs.Prelude.{ℕ, Bool, true, false, ◌&&◌, ◌||◌, cond, List, [], ◌∷◌, leb}
use Rattle.utf.specs.declared.Step.{Step}
use Rattle.utf.specs.Utf8.{inside}
use Rattle.utf.specs.Text.{step_value, steps_of, refused}

-- ---- the ranges

unfoldable pub in_ranges : List ℕ → ℕ → Bool
in_ranges [] v = false
in_ranges (first ∷ []) v = false
in_ranges (first ∷ last ∷ rs) v = inside first last v || in_ranges rs v

abbrev pub name_start : List ℕ
name_start =
    0x41 ∷ 0x5a ∷ 0x5f ∷ 0x5f ∷ 0x61 ∷ 0x7a ∷ 0xc0 ∷ 0xd6 ∷ 0xd8 ∷ 0xf6 ∷ 0xf8 ∷ 0x2ff ∷ 0x370 ∷ 0x37d ∷ 0x37f ∷ 0x1fff ∷
    0x200c ∷ 0x200d ∷ 0x2070 ∷ 0x218f ∷ 0x2c00 ∷ 0x2fef ∷ 0x3001 ∷ 0xd7ff ∷ 0xf900 ∷ 0xfdcf ∷ 0xfdf0 ∷ 0xfffd ∷ 0x10000 ∷ 0xeffff ∷ []

abbrev pub name_more : List ℕ
name_more = 0x2d ∷ 0x2d ∷ 0x2e ∷ 0x2e ∷ 0x30 ∷ 0x39 ∷ 0xb7 ∷ 0xb7 ∷ 0x300 ∷ 0x36f ∷ 0x203f ∷ 0x2040 ∷ []

-- ---- a value, and a byte

unfoldable pub is_start : ℕ → Bool
unfolding in_ranges
is_start v = in_ranges name_start v

unfoldable pub is_char : ℕ → Bool
unfolding in_ranges
is_char v = in_ranges name_start v || in_ranges name_more v

unfoldable pub char_sort : ℕ → ℕ
unfolding is_start is_char
char_sort v = cond (is_start v) 1 (cond (is_char v) 2 0)

unfoldable pub class_of : ℕ → ℕ
unfolding char_sort
class_of b = cond (leb 128 b) 3 (char_sort b)

-- ---- a text

unfoldable pub all_char : List Step → Bool
unfolding is_char
all_char [] = true
all_char (t ∷ ts) = is_char (step_value t) && all_char ts

unfoldable pub is_nc_name : List Step → Bool
unfolding is_start all_char
is_nc_name [] = false
is_nc_name (t ∷ ts) = is_start (step_value t) && all_char ts

unfoldable pub valid_name : Bool → List ℕ → Bool
unfolding is_nc_name
valid_name utf16 s = cond (refused utf16 s) false (is_nc_name (steps_of utf16 s))
