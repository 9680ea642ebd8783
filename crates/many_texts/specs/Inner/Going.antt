-- Texts put one behind the other, and their answers, on the way. No claim reaches this file.
--
--   TellsAt    a text at a place of a buffer that has room for it, and the answer of the code
--   Puts       the words of an answer at their place, and the place behind its text
--   Done       the first k texts and answers
--   Gives      the answer to all of them, and both outputs, whole
--   record_value, index_value   what is asked by each number of a question, in an open file
use Rattle.std.specs.Prelude.{ℕ, ◌+◌, ◌*◌, ◌≤◌, min, ◌≡◌, List, ◌++◌, length, take, get_or, Result}
use Rattle.many_texts.specs.Words.{answer_width}
use Rattle.system_types.specs.Names.{Lent}
use Rattle.text.specs.declared.Head.{Head}
use Rattle.text.specs.Content.{content_of}
use Rattle.value_text.specs.declared.Told.{Told}
use Rattle.value_text.specs.Value.{Value, shown, attribute_value}
use Rattle.value_text.specs.Inner.Leads.{told_of}
use Rattle.many_texts.specs.Many.{value_in, attribute_at, words_at, texts_to, words_to, most_bytes, most_count, leaves}
use Rattle.errors.specs.declared.Refusal.{Refusal}
use Rattle.errors.specs.declared.TextsWritten.{TextsWritten}

pub record TellsAt (at : ℕ) (v : Value) (before : List ℕ) (r : Told) (after : List ℕ) : Type 0 where
  pub told : r ≡ told_of v
  pub long : length after ≡ length before
  pub front : at + length (shown v) ≤ length before → take (at + length (shown v)) after ≡ take at before ++ shown v

pub record Puts (k at : ℕ) (v : Value) (before : List ℕ) (r : ℕ) (after : List ℕ) : Type 0 where
  pub place : r ≡ min (at + length (shown v)) most_count
  pub long : length after ≡ length before
  pub words : at + length (shown v) ≤ most_bytes → take (answer_width * k + answer_width) after ≡ take (answer_width * k) before ++ words_at at v

pub record Done (one : ℕ → Value) (n m k at : ℕ) (out table : List ℕ) : Type 0 where
  pub place : at ≡ min (length (texts_to one k)) most_count
  pub long : length out ≡ n
  pub utf16 : length table ≡ m
  pub bytes : length (texts_to one k) ≤ n → take (length (texts_to one k)) out ≡ texts_to one k
  pub words : length (texts_to one k) ≤ most_bytes → take (answer_width * k) table ≡ words_to one k

pub record Gives (n m count : ℕ) (one : ℕ → Value) (a r : Result TextsWritten Refusal) (out table : List ℕ) : Type 0 where
  pub same : r ≡ a
  pub bytes : out ≡ leaves n (texts_to one count) a
  pub words : table ≡ leaves m (words_to one count) a

abbrev pub record_value : Head → List ℕ → Lent → List ℕ → List ℕ → List ℕ → ℕ → Value
record_value h t lent items area ats k = attribute_value h t lent items area (attribute_at ats k)

abbrev pub index_value : Head → List ℕ → Lent → List ℕ → ℕ → Value
index_value h t lent indices k = value_in (content_of h t lent (get_or indices k 0))
