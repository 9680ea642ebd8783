-- What is known of long texts while a file is read: a number of each, and which have the same text. Not part of what a reader must believe.
--
--   size_of     how many bytes what was found has; from `long_from` on it is long, and from `very_long_from` on so long that all places are looked at for it
--   seen_at     the index that stands at a place, and one more: 0 where none does
--   first_at    the index that stands for all of the same text, at a place
--   number_at   the number of the text, at a place
--   mark_of     the word of an index and the one that stands for its text
--   Numbered   256 places of two words: what stands at a place is true of the index that it names, and two places of one text name one index for it
--   met_at      whether an index has the same text as the one that stands at a place
--   FirstOf    an index that stands for the text of i and for those at the places that have the same
--   ToldBy     what is told of two texts: nothing, or whether they are the same
use Rattle.std.specs.Prelude.{ℕ, ◌+◌, ◌-◌, ◌*◌, ◌/◌, ◌%◌, ◌<◌, ◌≡◌, List, Option, IfSome, Bool, true, false, cond, length, get_or, eqb}
use Rattle.system_types.specs.Names.{Lent}
use Rattle.text.specs.Content.{content_of, same_name}
use Rattle.text.specs.declared.Found.{Found}
use Rattle.text.specs.declared.Found.TheVariants.{Nothing, Cut, System, Pool}
use Rattle.text.specs.declared.Head.{Head}
use Rattle.tables.specs.Inner.Keys.{hash_in}

-- how many indices are kept, and how many words they take
abbrev pub place_count : ℕ
place_count = 256

abbrev pub word_count : ℕ
word_count = 512

-- how many places are looked at for most indices
abbrev pub near_count : ℕ
near_count = 16

abbrev pub long_from : ℕ
long_from = 128

abbrev pub very_long_from : ℕ
very_long_from = 16384

abbrev pub size_of : Found → ℕ
size_of Nothing = 0
size_of Cut = 0
size_of (System at n) = n
size_of (Pool at n) = n

abbrev pub seen_at : List ℕ → ℕ → ℕ
seen_at m j = get_or m j 0 / 4294967296

abbrev pub first_at : List ℕ → ℕ → ℕ
first_at m j = get_or m j 0 % 4294967296

abbrev pub number_at : List ℕ → ℕ → ℕ
number_at m j = get_or m (j + place_count) 0

abbrev pub mark_of : ℕ → ℕ → ℕ
mark_of i first = (i + 1) * 4294967296 + first

pub record Numbered (h : Head) (t : List ℕ) (lent : Lent) (m : List ℕ) : Type 0 where
  pub room : length m ≡ word_count
  pub number : (j i : ℕ) → j < place_count → seen_at m j ≡ i + 1 → number_at m j ≡ hash_in 0 (content_of h t lent i)
  pub first : (j i : ℕ) → j < place_count → seen_at m j ≡ i + 1 → same_name h t lent i (first_at m j) ≡ true
  pub alike : (j k a b : ℕ) → j < place_count → k < place_count → seen_at m j ≡ a + 1 → seen_at m k ≡ b + 1 → same_name h t lent a b ≡ true
      → first_at m j ≡ first_at m k

abbrev pub met_at : (ℕ → ℕ → Bool) → List ℕ → ℕ → ℕ → Bool
met_at same m i j = cond (eqb (seen_at m j) 0) false (same i (seen_at m j - 1))

pub record FirstOf (same : ℕ → ℕ → Bool) (m : List ℕ) (i r : ℕ) : Type 0 where
  pub small : r < 4294967296
  pub own : same i r ≡ true
  pub others : (k b : ℕ) → k < place_count → seen_at m k ≡ b + 1 → same i b ≡ true → r ≡ first_at m k

abbrev pub ToldBy : Bool → Option Bool → Type 0
ToldBy same told = IfSome told (λ known. known ≡ same)
