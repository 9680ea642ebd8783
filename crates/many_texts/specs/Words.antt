-- The six words of an answer, by name: docs/FORMAT.md, V13. src/lib.rt has the same numbers in code.
use Rattle.std.specs.Prelude.{ℕ, List, [], ◌∷◌}

abbrev pub answer_width : ℕ
answer_width = 6

abbrev pub answer_refusal : ℕ
answer_refusal = 0

abbrev pub answer_start : ℕ
answer_start = 1

abbrev pub answer_length : ℕ
answer_length = 2

abbrev pub answer_uncovered : ℕ
answer_uncovered = 3

abbrev pub answer_state : ℕ
answer_state = 4

abbrev pub answer_replaced : ℕ
answer_replaced = 5

abbrev pub answer_words : ℕ → ℕ → ℕ → ℕ → ℕ → ℕ → List ℕ
answer_words refusal start length uncovered state replaced = refusal ∷ start ∷ length ∷ uncovered ∷ state ∷ replaced ∷ []
