-- Many pairs of tag and name, asked at once: docs/FORMAT.md, M1 to M6.
--
--   ManyReads     THE PROMISE: the numbers of the answer, and every word of the lent list
--   many_answer    the answer: what refuses any first-value question, then 20 and 21, or how many pairs were answered
--   answers_after  the list afterwards: the answer to each pair in turn and zeros behind; zeros alone on a refusal
--   pairs_of       how many pairs there are; or the first that does not lie in the area, or the whole pairs where words remain
--   answer_to      the words of the answer to a pair: the numbers of the single question's answer but its value, which is 0
--
-- The answer to a pair IS `first_answer` of first_value/specs/Question, for its tag and its name. A table of words is those left; no pairs at all
-- are fine. Laws: proofs/Laws.antt. Computed on small tables: proofs/Cases.antt.
use Rattle.std.specs.Prelude.{ℕ, zero, suc, ◌+◌, ◌-◌, ◌*◌, ◌/◌, ◌%◌, ◌≡◌, List, [], ◌++◌, Bool, cond, ◌&&◌, length, drop, get_or, replicate, leb, eqb}
use Rattle.std.specs.Prelude.{Result, Ok, Err}
use Rattle.errors.specs.declared.Refusal.TheVariants.{PairsError, AnswersFull}
use Rattle.errors.specs.Refusal.{first_numbers_of, pair_numbers_of}
use Rattle.errors.specs.declared.FirstNumbers.{FirstNumbers}
use Rattle.items.specs.Items.{part_in}
use Rattle.records.specs.Words.{pair_width, pair_tag, pair_tag_length, pair_name, pair_name_length, answer_width, answer_words}
use Rattle.system_types.specs.Names.{Lent}
use Rattle.first_value.specs.Question.{shared_of, first_answer}
use Rattle.errors.specs.declared.FirstValue.{FirstValue}
use Rattle.errors.specs.declared.Refusal.{Refusal}
use Rattle.text.specs.declared.Head.{Head}

-- ---- the pairs: M1, M3

-- a part may be empty, and then begin at the end of the area; the sum has no bound
abbrev pub is_inside : List ℕ → ℕ → ℕ → Bool
is_inside area start n = leb (start + n) (length area)

module _ (area w : List ℕ) where
  -- of the pair at the front of the words
  abbrev pub pair_inside : Bool
  pair_inside = is_inside area (get_or w pair_tag 0) (get_or w pair_tag_length 0) && is_inside area (get_or w pair_name 0) (get_or w pair_name_length 0)

  abbrev pub tag_in : List ℕ
  tag_in = part_in area (get_or w pair_tag 0) (get_or w pair_tag_length 0)

  abbrev pub name_in : List ℕ
  name_in = part_in area (get_or w pair_name 0) (get_or w pair_name_length 0)

-- tag and name of pair k
abbrev pub tag_at : List ℕ → List ℕ → ℕ → List ℕ
tag_at pairs area k = tag_in area (drop (pair_width * k) pairs)

abbrev pub name_at : List ℕ → List ℕ → ℕ → List ℕ
name_at pairs area k = name_in area (drop (pair_width * k) pairs)

-- n pairs, numbered from k, all of them inside, or the first that is not; then come words that make no whole pair, `left` of them
unfoldable pub pairs_from : List ℕ → ℕ → ℕ → ℕ → List ℕ → Result ℕ ℕ
pairs_from area left k zero w = cond (eqb left 0) (Ok k) (Err k)
pairs_from area left k (suc n) w = cond (pair_inside area w) (pairs_from area left (k + 1) n (drop pair_width w)) (Err k)

unfoldable pub pairs_of : List ℕ → List ℕ → Result ℕ ℕ
pairs_of pairs area = pairs_from area (length pairs % pair_width) 0 (length pairs / pair_width) pairs

-- ---- the answers: M4

abbrev pub number_words : FirstNumbers → List ℕ
number_words n = answer_words n.refusal n.kind n.«data» n.reference

abbrev pub answer_to : Result FirstValue Refusal → List ℕ
answer_to a = number_words (first_numbers_of a)

-- of n pairs, each asked by its tag and its name
unfoldable pub answers_from : (List ℕ → List ℕ → Result FirstValue Refusal) → List ℕ → ℕ → List ℕ → List ℕ
answers_from ask area zero w = []
answers_from ask area (suc n) w = answer_to (ask (tag_in area w) (name_in area w)) ++ answers_from ask area n (drop pair_width w)

-- ---- the answer of the call: M2

abbrev pub many_by : ℕ → Result ℕ ℕ → Result ℕ Refusal
many_by places (Err k) = Err (PairsError k)
many_by places (Ok n) = cond (leb n places) (Ok n) (Err (AnswersFull places))

abbrev pub many_asked_by : ℕ → Result ℕ ℕ → Result Head Refusal → Result ℕ Refusal
many_asked_by places read (Err r) = Err r
many_asked_by places read (Ok h) = many_by places read

-- the lent list of m words afterwards, of the words of all answers: M5
abbrev pub list_by : ℕ → List ℕ → Result ℕ Refusal → List ℕ
list_by m words (Err r) = replicate m 0
list_by m words (Ok n) = words ++ replicate (m - answer_width * n) 0

module _ (f : List ℕ) (lent : Lent) (ns ats : List ℕ) (nodes attributes : ℕ) where
  -- the single question
  abbrev pub asks : List ℕ → List ℕ → Result FirstValue Refusal
  asks tag name = first_answer f lent ns ats tag name nodes attributes

  unfoldable pub many_answer : List ℕ → List ℕ → ℕ → Result ℕ Refusal
  many_answer pairs area m = many_asked_by (m / answer_width) (pairs_of pairs area) (shared_of f lent ns ats nodes attributes)

  unfoldable pub answers_after : List ℕ → List ℕ → ℕ → List ℕ
  answers_after pairs area m = list_by m (answers_from asks area (length pairs / pair_width) pairs) (many_answer pairs area m)

pub record ManyReads (f : List ℕ) (lent : Lent) (ns ats pairs area before : List ℕ) (nodes attributes : ℕ) (r : Result ℕ Refusal) (after : List ℕ) : Type 0 where
  pub answer : pair_numbers_of r ≡ pair_numbers_of (many_answer f lent ns ats nodes attributes pairs area (length before))
  pub list : after ≡ answers_after f lent ns ats nodes attributes pairs area (length before)
