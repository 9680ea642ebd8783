-- The round-up of a month: docs/FORMAT.md, R1 to R8.
--
-- 132 counts, all of them numbers up to 4,294,967,295, in this order: the files read; the files refused, by the number of their refusal, 0 to 52; and
-- the grid, thirteen kinds of notes by six size classes, kind by kind.
--
--   empty_round_up   before the first file: each count is 0
--   class_bound     the longest file of the class n, for n = 0 to 4: 2 ^ (12 + 2 n) bytes
--   class_of        the class of a file of this length: the first whose bound it does not pass; 5 above all bounds
--   row_of          the six cells of a kind that has this many notes in a file of this class
--   cells_of        the rows of all kinds, one behind the other
--   share_by        what a file adds to each count. Refusal 0 is a file read: one more file read, and its notes in its class. Any other number is a file
--                  refused: one more refused with this number, and nothing else; its kinds and its length are not looked at
--   share_of        the same by the answer of the reading
--   sums           the sum in every count
--   has_room        whether no sum passes 4,294,967,295
--   AddsShare      all of a share is added, or nothing of it
--   added_to        THE PROMISE of `add_reading`: with the share added; or 29, and the round-up that came in
--   add_numbers     the numbers of its answer
--   files_read, refused_by, notes_of, grid_of   what stands where; 0 for a number, a kind or a class that there is not
use Rattle.std.specs.Prelude.{ℕ, ◌+◌, ◌*◌, ◌^◌, ◌≡◌, Bool, true, cond, ◌&&◌, List, [], ◌∷◌, ◌++◌, get_or, set, drop, replicate, ltb, leb, eqb, Result, Ok, Err}
use Rattle.errors.specs.Refusal.{refusal_number, refusal_value, numbers_of}
use Rattle.errors.specs.declared.Refusal.TheVariants.{RoundUpFull}
use Rattle.round_up.specs.declared.Added.{Added}
use Rattle.round_up.specs.declared.AddNumbers.{AddNumbers}
use Rattle.round_up.specs.declared.RoundUp.{RoundUp}
use Rattle.errors.specs.declared.ReadCounts.{ReadCounts}
use Rattle.errors.specs.declared.Refusal.{Refusal}

-- ---- the counts

-- the kinds of the Rust, 0 to 12: kind 32 is not among them
abbrev pub kinds : ℕ
kinds = 13

abbrev pub classes : ℕ
classes = 6

-- the numbers of refusals, 0 to 52; 0 and those that no refusal has stay 0
abbrev pub numbers : ℕ
numbers = 53

-- where the counts by number begin, and where the grid begins
abbrev pub refused_from : ℕ
refused_from = 1

abbrev pub grid_from : ℕ
grid_from = 54

abbrev pub places : ℕ
places = 132

abbrev pub empty_round_up : RoundUp
empty_round_up = record { counts = replicate places 0 }

abbrev pub files_read : RoundUp → ℕ
files_read r = get_or r.counts 0 0

abbrev pub refused_by : RoundUp → ℕ → ℕ
refused_by r number = cond (ltb number numbers) (get_or r.counts (refused_from + number) 0) 0

abbrev pub notes_of : RoundUp → ℕ → ℕ → ℕ
notes_of r kind class = cond (ltb kind kinds) (cond (ltb class classes) (get_or r.counts (grid_from + (classes * kind + class)) 0) 0) 0

abbrev pub grid_of : RoundUp → List ℕ
grid_of r = drop grid_from r.counts

-- ---- what a file adds

abbrev pub class_bound : ℕ → ℕ
class_bound n = 2 ^ (12 + 2 * n)

unfoldable pub class_of : ℕ → ℕ
class_of length =
    cond (leb length (class_bound 0)) 0
    (cond (leb length (class_bound 1)) 1
    (cond (leb length (class_bound 2)) 2
    (cond (leb length (class_bound 3)) 3
    (cond (leb length (class_bound 4)) 4 5))))

abbrev pub row_of : ℕ → ℕ → List ℕ
row_of class n = set (replicate classes 0) class n

abbrev pub cells_of : ℕ → List ℕ → List ℕ
cells_of class [] = []
cells_of class (n ∷ counts) = row_of class n ++ cells_of class counts

-- one file read, and none refused
abbrev pub head_of : List ℕ
head_of = 1 ∷ replicate numbers 0

abbrev pub read_share : List ℕ → ℕ → List ℕ
read_share counts class = head_of ++ cells_of class counts

abbrev pub refused_share : ℕ → List ℕ
refused_share number = set (replicate places 0) (refused_from + number) 1

unfoldable pub share_by : List ℕ → ℕ → ℕ → List ℕ
share_by counts number length = cond (eqb number 0) (read_share counts (class_of length)) (refused_share number)

abbrev pub share_of : List ℕ → Result ReadCounts Refusal → ℕ → List ℕ
share_of counts answer length = share_by counts (numbers_of answer).refusal length

-- ---- adding

abbrev pub largest : ℕ
largest = 4294967295

unfoldable pub sums : List ℕ → List ℕ → List ℕ
sums [] share = []
sums (a ∷ l) [] = a ∷ l
sums (a ∷ l) (b ∷ share) = (a + b) ∷ sums l share

unfoldable pub has_room : List ℕ → List ℕ → Bool
has_room [] share = true
has_room (a ∷ l) [] = true
has_room (a ∷ l) (b ∷ share) = leb (a + b) largest && has_room l share

-- the counts that a share is added to: all of it, or nothing
pub record AddsShare (before share : List ℕ) (r : Bool) (after : List ℕ) : Type 0 where
  pub room : r ≡ has_room before share
  pub counts : after ≡ cond (has_room before share) (sums before share) before

abbrev pub added_of : List ℕ → Added
added_of counts = record { answer = Ok tt; round_up = record { counts = counts } }

abbrev pub full_of : RoundUp → Added
full_of r = record { answer = Err RoundUpFull; round_up = r }

unfoldable pub added_to : RoundUp → List ℕ → Added
added_to r share = cond (has_room r.counts share) (added_of (sums r.counts share)) (full_of r)

unfoldable pub add_numbers : Result (Unit {0}) Refusal → AddNumbers
add_numbers (Ok u) = record { refusal = 0; value = 0 }
add_numbers (Err r) = record { refusal = refusal_number r; value = refusal_value r }
