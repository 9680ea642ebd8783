-- The answers of value texts and of many texts as structs that C has: docs/FORMAT.md, B1, V12 to V16.
--
--   attribute_by                    the attribute whose words C hands over
--   value_answer_of, many_answer_of    the numbers of an answer, field by field
--   AsksValue                      THE PROMISE of `axml_value_text`: the numbers of the answer and every byte of the buffer
--   AsksValues, AsksTexts          THE PROMISES of `axml_value_texts` and `axml_texts`: every word of the answers besides
use Rattle.std.specs.Prelude.{ℕ, ◌≡◌, List, length}
use Rattle.errors.specs.declared.ValueNumbers.{ValueNumbers}
use Rattle.errors.specs.declared.ManyNumbers.{ManyNumbers}
use Rattle.errors.specs.Refusal.{value_numbers_of, many_numbers_of}
use Rattle.system_types.specs.Names.{Lent}
use Rattle.value_text.specs.declared.Attribute.{Attribute}
use Rattle.value_text.specs.Value.{value_answer, value_buffer}
use Rattle.many_texts.specs.Many.{leaves, texts_to, words_to, value_one, values_answer, text_one, texts_answer}
use Rattle.c_api.specs.declared.values.AxmlValueAnswer.{AxmlValueAnswer}
use Rattle.c_api.specs.declared.values.AxmlManyAnswer.{AxmlManyAnswer}

abbrev pub attribute_by : ℕ → ℕ → ℕ → ℕ → ℕ → ℕ → Attribute
attribute_by owner prefix name kind «data» ns =
    record { owner = owner; prefix = prefix; name = record { 0 = name }; kind = kind; «data» = «data»; ns = record { 0 = ns } }

abbrev pub value_answer_of : ValueNumbers → AxmlValueAnswer
value_answer_of n =
    record { refusal = n.refusal; value = n.value; length = n.length; uncovered = n.uncovered; state = n.state; replaced = n.replaced }

abbrev pub many_answer_of : ManyNumbers → AxmlManyAnswer
many_answer_of n = record { refusal = n.refusal; value = n.value; count = n.count; length = n.length }

pub record AsksValue
    (f : List ℕ) (lent : Lent) (items area before : List ℕ) (a : Attribute) (r : AxmlValueAnswer) (after : List ℕ) : Type 0 where
  pub answer : r ≡ value_answer_of (value_numbers_of (value_answer f lent items area (length before) a))
  pub out : after ≡ value_buffer f lent items area (length before) a

pub record AsksValues
    (f : List ℕ) (lent : Lent) (items area ats out₀ table₀ : List ℕ) (count : ℕ) (r : AxmlManyAnswer) (out table : List ℕ) : Type 0 where
  pub answer : r ≡ many_answer_of (many_numbers_of (values_answer f lent items area ats count (length out₀) (length table₀)))
  pub bytes :
      out ≡ leaves (length out₀) (texts_to (value_one f lent items area ats) count)
      (values_answer f lent items area ats count (length out₀) (length table₀))
  pub words :
      table ≡ leaves (length table₀) (words_to (value_one f lent items area ats) count)
      (values_answer f lent items area ats count (length out₀) (length table₀))

pub record AsksTexts (f : List ℕ) (lent : Lent) (indices out₀ table₀ : List ℕ) (r : AxmlManyAnswer) (out table : List ℕ) : Type 0 where
  pub answer : r ≡ many_answer_of (many_numbers_of (texts_answer f lent indices (length out₀) (length table₀)))
  pub bytes :
      out ≡ leaves (length out₀) (texts_to (text_one f lent indices) (length indices)) (texts_answer f lent indices (length out₀) (length table₀))
  pub words :
      table ≡ leaves (length table₀) (words_to (text_one f lent indices) (length indices)) (texts_answer f lent indices (length out₀) (length table₀))
