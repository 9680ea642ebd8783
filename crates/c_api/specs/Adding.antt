-- A round-up that is lent as words, and a file added to it: docs/FORMAT.md, R9.
--
--   add_answer_of   the numbers of an answer as the struct that C has
--   adding_to      what is answered, and the round-up afterwards: 13 with how many words were lent where they are not 132; 13 with the refusal where no
--                 refusal has so high a number; else as `add_reading` has it, by the number of the reading's refusal, 0 for a file read
--   AddsWords     THE PROMISE of `axml_round_up_add`: the numbers of that answer, and every word of the round-up
use Rattle.std.specs.Prelude.{ℕ, ◌≡◌, cond, List, length, ltb, eqb, Err}
use Rattle.errors.specs.declared.Refusal.TheVariants.{TablesError}
use Rattle.round_up.specs.declared.Added.{Added}
use Rattle.round_up.specs.declared.AddNumbers.{AddNumbers}
use Rattle.round_up.specs.Kinds.{kinds_in}
use Rattle.round_up.specs.RoundUp.{places, numbers, share_by, added_to, add_numbers}
use Rattle.c_api.specs.declared.adding.AxmlAddAnswer.{AxmlAddAnswer}

abbrev pub add_answer_of : AddNumbers → AxmlAddAnswer
add_answer_of n = record { refusal = n.refusal; value = n.value }

-- nothing is added, and 13 is answered with this value
abbrev pub misfit : List ℕ → ℕ → Added
misfit words value = record { answer = Err (TablesError value); round_up = record { counts = words } }

unfoldable pub adding_to : List ℕ → List ℕ → ℕ → ℕ → ℕ → Added
adding_to words notes refusal count bytes =
    cond (eqb (length words) places)
    (cond (ltb refusal numbers) (added_to (record { counts = words }) (share_by (kinds_in notes count) refusal bytes)) (misfit words refusal))
    (misfit words (length words))

pub record AddsWords (words notes : List ℕ) (refusal count bytes : ℕ) (r : AxmlAddAnswer) (words' : List ℕ) : Type 0 where
  pub answer : r ≡ add_answer_of (add_numbers (adding_to words notes refusal count bytes).answer)
  pub counts : words' ≡ (adding_to words notes refusal count bytes).round_up.counts
