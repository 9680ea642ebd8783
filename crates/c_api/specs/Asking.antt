-- Many pairs of tag and name at once, answered by a struct that C has: docs/FORMAT.md, M1 to M5.
--
--   pairs_answer_of   the numbers of an answer, field by field
--   AsksMany        THE PROMISE of `axml_first_values`: the numbers of the answer and every word of the lent list
use Rattle.std.specs.Prelude.{ℕ, ◌≡◌, List, length}
use Rattle.errors.specs.declared.PairNumbers.{PairNumbers}
use Rattle.errors.specs.Refusal.{pair_numbers_of}
use Rattle.system_types.specs.Names.{Lent}
use Rattle.first_values.specs.Pairs.{many_answer, answers_after}
use Rattle.c_api.specs.declared.asking.AxmlPairsAnswer.{AxmlPairsAnswer}

abbrev pub pairs_answer_of : PairNumbers → AxmlPairsAnswer
pairs_answer_of n = record { refusal = n.refusal; value = n.value; count = n.count }

pub record AsksMany (f : List ℕ) (lent : Lent) (ns ats pairs area before : List ℕ) (nodes attributes : ℕ) (r : AxmlPairsAnswer) (after : List ℕ) : Type 0 where
  pub answer : r ≡ pairs_answer_of (pair_numbers_of (many_answer f lent ns ats nodes attributes pairs area (length before)))
  pub list : after ≡ answers_after f lent ns ats nodes attributes pairs area (length before)
