-- One of many answers beside that of the single question: docs/FORMAT.md, V13. A word of the claims.
--
--   IsPart   answer i has these numbers, and the part of the buffer that it names is a text, the front of another buffer
use Rattle.std.specs.Prelude.{ℕ, ◌+◌, ◌*◌, ◌≡◌, List, take, drop, get_or}
use Rattle.many_texts.specs.Words.{answer_width, answer_refusal, answer_start, answer_length, answer_uncovered, answer_state, answer_replaced}

pub record IsPart (refusal length uncovered state replaced : ℕ) (buffer : List ℕ) (i : ℕ) (out table : List ℕ) : Type 0 where
  pub number : get_or table (answer_width * i + answer_refusal) 0 ≡ refusal
  pub long : get_or table (answer_width * i + answer_length) 0 ≡ length
  pub bits : get_or table (answer_width * i + answer_uncovered) 0 ≡ uncovered
  pub damage : get_or table (answer_width * i + answer_state) 0 ≡ state
  pub count : get_or table (answer_width * i + answer_replaced) 0 ≡ replaced
  pub text : take length (drop (get_or table (answer_width * i + answer_start) 0) out) ≡ take length buffer
