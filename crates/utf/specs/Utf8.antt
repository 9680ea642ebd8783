-- UTF-8 at the front of a list of bytes: The Unicode Standard, chapter 3, Tables 3-6 and 3-7, definitions D76, D92 and D93b.
--
--   table37    Table 3-7, "Well-Formed UTF-8 Byte Sequences": a row holds a first and a last number for each of its bytes
--   matched    how many bytes of the front lie in a row's ranges, in order
--   is_whole_form  whether each range of the row has its byte; any_whole: whether some row does
--   longest    the most bytes that a row matches; 0 where no row has the first byte
--   spelt      Table 3-6 from the bytes of one sequence to its scalar value; encode: from the value to its bytes
--   step8      where a row is whole its scalar value and length; else the maximal subpart, which is the longest part of a row and at least
--              one byte (D93b); `End` of no bytes
--   is_scalar   a Unicode scalar value (D76): below 110000 hexadecimal, and no surrogate
use Rattle.std.specs.Prelude.{ℕ, suc, ◌+◌, ◌*◌, ◌/◌, ◌%◌, max, Bool, true, false, ◌&&◌, ◌||◌, cond, List, [], ◌∷◌, leb, ltb, take}
use Rattle.utf.specs.declared.Step.{Step}
use Rattle.utf.specs.declared.Step.TheVariants.{Scalar, Bad, End}

abbrev pub inside : ℕ → ℕ → ℕ → Bool
inside first last n = leb first n && leb n last

unfoldable pub is_scalar : ℕ → Bool
is_scalar v = leb v 0xd7ff || inside 0xe000 0x10ffff v

-- ---- Table 3-7

abbrev pub table37 : List (List ℕ)
table37 =
    (0x00 ∷ 0x7f ∷ []) ∷
    (0xc2 ∷ 0xdf ∷ 0x80 ∷ 0xbf ∷ []) ∷
    (0xe0 ∷ 0xe0 ∷ 0xa0 ∷ 0xbf ∷ 0x80 ∷ 0xbf ∷ []) ∷
    (0xe1 ∷ 0xec ∷ 0x80 ∷ 0xbf ∷ 0x80 ∷ 0xbf ∷ []) ∷
    (0xed ∷ 0xed ∷ 0x80 ∷ 0x9f ∷ 0x80 ∷ 0xbf ∷ []) ∷
    (0xee ∷ 0xef ∷ 0x80 ∷ 0xbf ∷ 0x80 ∷ 0xbf ∷ []) ∷
    (0xf0 ∷ 0xf0 ∷ 0x90 ∷ 0xbf ∷ 0x80 ∷ 0xbf ∷ 0x80 ∷ 0xbf ∷ []) ∷
    (0xf1 ∷ 0xf3 ∷ 0x80 ∷ 0xbf ∷ 0x80 ∷ 0xbf ∷ 0x80 ∷ 0xbf ∷ []) ∷
    (0xf4 ∷ 0xf4 ∷ 0x80 ∷ 0x8f ∷ 0x80 ∷ 0xbf ∷ 0x80 ∷ 0xbf ∷ []) ∷ []

unfoldable pub matched : List ℕ → List ℕ → ℕ
matched [] s = 0
matched (first ∷ []) s = 0
matched (first ∷ last ∷ r) [] = 0
matched (first ∷ last ∷ r) (b ∷ s) = cond (inside first last b) (suc (matched r s)) 0

unfoldable pub is_whole_form : List ℕ → List ℕ → Bool
is_whole_form [] s = true
is_whole_form (first ∷ []) s = false
is_whole_form (first ∷ last ∷ r) [] = false
is_whole_form (first ∷ last ∷ r) (b ∷ s) = inside first last b && is_whole_form r s

unfoldable pub longest : List (List ℕ) → List ℕ → ℕ
unfolding matched
longest [] s = 0
longest (r ∷ rs) s = max (matched r s) (longest rs s)

unfoldable pub any_whole : List (List ℕ) → List ℕ → Bool
unfolding is_whole_form
any_whole [] s = false
any_whole (r ∷ rs) s = is_whole_form r s || any_whole rs s

-- ---- Table 3-6: 6 bits of the value in each byte after the first, and the rest in the first

unfoldable pub spelt : List ℕ → ℕ
spelt [] = 0
spelt (a ∷ []) = a
spelt (a ∷ b ∷ []) = a % 32 * 64 + b % 64
spelt (a ∷ b ∷ c ∷ []) = a % 16 * 4096 + b % 64 * 64 + c % 64
spelt (a ∷ b ∷ c ∷ d ∷ s) = a % 8 * 262144 + b % 64 * 4096 + c % 64 * 64 + d % 64

unfoldable pub encode : ℕ → List ℕ
encode v =
    cond (ltb v 0x80) (v ∷ [])
    (cond (ltb v 0x800) ((0xc0 + v / 64) ∷ (0x80 + v % 64) ∷ [])
    (cond (ltb v 0x10000) ((0xe0 + v / 4096) ∷ (0x80 + v / 64 % 64) ∷ (0x80 + v % 64) ∷ [])
    ((0xf0 + v / 262144) ∷ (0x80 + v / 4096 % 64) ∷ (0x80 + v / 64 % 64) ∷ (0x80 + v % 64) ∷ [])))

-- ---- the step

unfoldable pub step8 : List ℕ → Step
unfolding longest any_whole spelt
step8 [] = End
step8 (b ∷ s) =
    let n = longest table37 (b ∷ s) in
    cond (any_whole table37 (b ∷ s)) (Scalar (spelt (take n (b ∷ s))) n) (Bad (max 1 n))
