-- Stored data as words and parts, the counts of answers, and the text of a group. Not part of what a reader must believe.
--
--   word_at      word i of a part, the low byte first; 0 behind its last whole word
--   part_in      the bytes whose place and number are words i and i + 1; none where they do not lie inside the data
--   words_to     the first n words of a part
--   room_for     how many words of a part go into a table: all, or as many as it has places
--   loaded      a table with those words at its front, and the rest as it was
--   bumped      counts with one more at a place, modulo 2 ^ 32; as they were where the place is outside
--   tallied     counts with one more answer of a group, and one more right one where it is: the places 2 g + 1 and 2 g
--   group_text   `right of asked` and a line feed, of a group; nothing where its number is not below the table's length
--   Leads       a text at the front of a buffer, and the rest as it was
--
-- Every definition says what comes of any number, also outside. Laws: proofs/Laws.antt.
use Rattle.std.specs.Prelude.{◌≡◌, ℕ, zero, suc, ◌+◌, ◌*◌, ◌/◌, ◌%◌, ◌≤◌, min, nat_le, nat_lt, Bool, cond, List, [], ◌∷◌, ◌++◌}
use Rattle.std.specs.Prelude.{length, take, drop, slice_index, slice_set}
use Rattle.field.specs.Le.{u32le}
use Rattle.digits.specs.Digits.{decimal}

-- ---- the data

unfoldable pub word_at : List ℕ → ℕ → ℕ
word_at s i = cond (nat_lt i (length s / 4)) (u32le s (4 * i)) 0

unfoldable pub part_in : List ℕ → List ℕ → ℕ → List ℕ
part_in all s i = cond (nat_le (word_at s i + word_at s (i + 1)) (length all)) (take (word_at s (i + 1)) (drop (word_at s i) all)) []

unfoldable pub words_to : ℕ → List ℕ → List ℕ
words_to zero s = []
words_to (suc n) s = words_to n s ++ (word_at s n ∷ [])

abbrev pub room_for : List ℕ → List ℕ → ℕ
room_for s table = min (length s / 4) (length table)

unfoldable pub loaded : List ℕ → List ℕ → List ℕ
loaded s table = words_to (room_for s table) s ++ drop (room_for s table) table

-- ---- the counts

unfoldable pub bumped : List ℕ → ℕ → List ℕ
bumped counts place = slice_set counts place ((slice_index counts place + 1) % 4294967296)

unfoldable pub tallied : List ℕ → ℕ → Bool → List ℕ
tallied counts g right = cond right (bumped (bumped counts (2 * g + 1)) (2 * g)) (bumped counts (2 * g + 1))

-- ---- the report

-- 32 111 102 32 is ` of `, and 10 a line feed
unfoldable pub group_text : List ℕ → ℕ → List ℕ
group_text counts g =
    cond (nat_lt g (length counts))
    (decimal (slice_index counts (2 * g)) ++ (32 ∷ 111 ∷ 102 ∷ 32 ∷ []) ++ decimal (slice_index counts (2 * g + 1)) ++ (10 ∷ []))
    []

-- `within` and `front` follow from the others: with them `&out[..r]` needs no proof of its own
pub record Leads (text before : List ℕ) (r : ℕ) (after : List ℕ) : Type 0 where
  pub count : r ≡ length text
  pub out : after ≡ text ++ drop r before
  pub within : r ≤ length after
  pub front : r ≡ length (take r after)
