-- The answers of the questions as structs that C has: docs/FORMAT.md, B1, B7, Q1, Q2, Q5.
--
--   text_answer_of, first_answer_of   the numbers of an answer, field by field
--   AsksText                      THE PROMISE of `axml_text`: the numbers of the answer and every byte of the buffer
use Rattle.std.specs.Prelude.{ℕ, ◌≡◌, List, length}
use Rattle.errors.specs.declared.FirstNumbers.{FirstNumbers}
use Rattle.errors.specs.declared.TextNumbers.{TextNumbers}
use Rattle.errors.specs.Refusal.{text_numbers_of}
use Rattle.system_types.specs.Names.{Lent}
use Rattle.head.specs.Ask.{text_answer, text_buffer}
use Rattle.c_api.specs.declared.AxmlFirstAnswer.{AxmlFirstAnswer}
use Rattle.c_api.specs.declared.AxmlTextAnswer.{AxmlTextAnswer}

abbrev pub text_answer_of : TextNumbers → AxmlTextAnswer
text_answer_of n = record { refusal = n.refusal; value = n.value; length = n.length; state = n.state; replaced = n.replaced }

abbrev pub first_answer_of : FirstNumbers → AxmlFirstAnswer
first_answer_of n = record { refusal = n.refusal; value = n.value; kind = n.kind; «data» = n.«data»; reference = n.reference }

pub record AsksText (f : List ℕ) (lent : Lent) (before : List ℕ) (i : ℕ) (r : AxmlTextAnswer) (after : List ℕ) : Type 0 where
  pub answer : r ≡ text_answer_of (text_numbers_of (text_answer f lent (length before) i))
  pub out : after ≡ text_buffer f lent (length before) i
