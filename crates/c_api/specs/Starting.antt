-- Which screens a launcher starts, answered by a struct that C has: docs/FORMAT.md, S1 to S10.
--
--   main_answer_of   the numbers of an answer, field by field
--   AsksMain       THE PROMISE of `axml_main_activities`: the numbers of the answer and every word of the lent list
use Rattle.std.specs.Prelude.{ℕ, ◌≡◌, List, length}
use Rattle.system_types.specs.Names.{Lent}
use Rattle.main_activities.specs.declared.MainNumbers.{MainNumbers}
use Rattle.main_activities.specs.Activities.{main_answer, list_after, main_numbers_of}
use Rattle.c_api.specs.declared.starting.AxmlMainAnswer.{AxmlMainAnswer}

abbrev pub main_answer_of : MainNumbers → AxmlMainAnswer
main_answer_of n = record { refusal = n.refusal; value = n.value; count = n.count }

pub record AsksMain
    (f : List ℕ) (lent : Lent) (items area ns ats before : List ℕ) (nodes attributes : ℕ) (r : AxmlMainAnswer) (after : List ℕ) : Type 0 where
  pub answer : r ≡ main_answer_of (main_numbers_of (main_answer f lent items area ns ats nodes attributes (length before)))
  pub list : after ≡ list_after f lent items area ns ats nodes attributes (length before)
