-- Many texts at once: docs/FORMAT.md, V13 to V16.
--
--   value_asked    what the value question (value_text/specs/Value.antt) has for an attribute of a file; no_name where the file is not open
--   index_asked    what the text question (head/specs/Ask.antt) has for a string index, as a value
--   attribute_at   the attribute of a record of a table; words past its end are 0
--   texts_to       the texts of the first n questions, one behind the other; words_to the words of their answers
--   many_by        the answer to n questions: 21 where not each has a place for its answer, 11 where their texts have no room
--   values_answer  the answer of `value_texts`; texts_answer that of `texts`
--   leaves        what stands in a lent buffer or table afterwards, whole: zeros behind what was put there, or zeros alone
--   ReadsValues   THE PROMISE of `value_texts`: the numbers of the answer, and every byte and word; ReadsTexts that of `texts`
--
-- `one` says for each number of a question what is asked. A start is a word, so that texts of more than `most_bytes` have no room in any
-- buffer; where not even `most_count` counts their bytes, 11 tells that number. Laws: proofs/Going.antt, proofs/Claimed.antt.
use Rattle.std.specs.Prelude.{ℕ, zero, suc, ◌+◌, ◌-◌, ◌*◌, ◌/◌, min, ◌≡◌, List, [], ◌++◌, cond, length, replicate, get_or, ltb, leb, Result, Ok, Err}
use Rattle.errors.specs.Refusal.{refusal_number, state_of, replaced_of, many_numbers_of}
use Rattle.errors.specs.declared.Refusal.TheVariants.{NothingFound, TextShort, TablesError, NoPlainText, AnswersFull}
use Rattle.records.specs.Words.{attribute_width, attribute_owner, attribute_prefix, attribute_name, attribute_type, attribute_data, attribute_namespace}
use Rattle.many_texts.specs.Words.{answer_width, answer_words}
use Rattle.system_types.specs.Names.{Lent}
use Rattle.text.specs.Content.{Content, none, cut, some, text_in, damage_in}
use Rattle.head.specs.Head.{tables_in}
use Rattle.head.specs.Ask.{open_of, content_asked, state_told}
use Rattle.value_text.specs.declared.Attribute.{Attribute}
use Rattle.value_text.specs.Value.{Value, no_name, no_text, shows, shown, attribute_value, value_open}
use Rattle.errors.specs.declared.Refusal.{Refusal}
use Rattle.errors.specs.declared.TextsWritten.{TextsWritten}
use Rattle.text.specs.declared.Head.{Head}

-- ---- one question

abbrev pub value_asked_by : List ℕ → Lent → List ℕ → List ℕ → Attribute → Result Head Refusal → Value
value_asked_by f lent items area a (Err r) = no_name
value_asked_by f lent items area a (Ok h) = attribute_value h (tables_in f h) lent items area a

abbrev pub value_asked : List ℕ → Lent → List ℕ → List ℕ → Attribute → Value
value_asked f lent items area a = value_asked_by f lent items area a (value_open f lent items area)

-- no bits are uncovered in the text of an index, and its damage is told
abbrev pub value_in : Content → Value
value_in none = no_name
value_in cut = shows (text_in cut) 0 (state_told (damage_in cut))
value_in (some w s) = shows (text_in (some w s)) 0 (state_told (damage_in (some w s)))

abbrev pub index_asked : List ℕ → Lent → ℕ → Value
index_asked f lent i = value_in (content_asked f lent i)

unfoldable pub attribute_at : List ℕ → ℕ → Attribute
attribute_at w k =
    record {
      owner = get_or w (attribute_width * k + attribute_owner) 0;
      prefix = get_or w (attribute_width * k + attribute_prefix) 0;
      name = record { 0 = get_or w (attribute_width * k + attribute_name) 0 };
      kind = get_or w (attribute_width * k + attribute_type) 0;
      «data» = get_or w (attribute_width * k + attribute_data) 0;
      ns = record { 0 = get_or w (attribute_width * k + attribute_namespace) 0 };
    }

-- ---- what all of them have

-- the words of an answer whose text begins at this place
abbrev pub words_at : ℕ → Value → List ℕ
words_at start no_name = answer_words (refusal_number NothingFound) 0 0 0 0 0
words_at start no_text = answer_words (refusal_number (NoPlainText 0)) 0 0 0 0 0
words_at start (shows s u d) = answer_words 0 start (length s) u (state_of d) (replaced_of d)

unfoldable pub texts_to : (ℕ → Value) → ℕ → List ℕ
texts_to one zero = []
texts_to one (suc n) = texts_to one n ++ shown (one n)

unfoldable pub words_to : (ℕ → Value) → ℕ → List ℕ
words_to one zero = []
words_to one (suc n) = words_to one n ++ words_at (length (texts_to one n)) (one n)

-- ---- the answer

-- the largest word, and the largest number that counts bytes
abbrev pub most_bytes : ℕ
most_bytes = 4294967295

abbrev pub most_count : ℕ
most_count = 18446744073709551615

-- with room for the texts of so many bytes, and so many answers
unfoldable pub many_by : ℕ → (ℕ → Value) → ℕ → ℕ → Result TextsWritten Refusal
many_by n one room places =
    cond (ltb places n) (Err (AnswersFull places))
    (cond (leb (length (texts_to one n)) (min room most_bytes)) (Ok (record { count = n; length = (length (texts_to one n)) }))
    (Err (TextShort (min (length (texts_to one n)) most_count))))

abbrev pub leaves : ℕ → List ℕ → Result TextsWritten Refusal → List ℕ
leaves n s (Err r) = replicate n 0
leaves n s (Ok w) = s ++ replicate (n - length s) 0

-- ---- the values of a table's records

module _ (f : List ℕ) (lent : Lent) (items area ats : List ℕ) where
  abbrev pub value_one : ℕ → Value
  value_one k = value_asked f lent items area (attribute_at ats k)

  -- 13 where there are not so many records
  abbrev pub values_by : ℕ → ℕ → ℕ → Result Head Refusal → Result TextsWritten Refusal
  values_by count room words (Err r) = Err r
  values_by count room words (Ok h) =
      cond (ltb (length ats) (attribute_width * count)) (Err (TablesError count)) (many_by count value_one room (words / answer_width))

  unfoldable pub values_answer : ℕ → ℕ → ℕ → Result TextsWritten Refusal
  values_answer count room words = values_by count room words (value_open f lent items area)

  pub record ReadsValues (out₀ table₀ : List ℕ) (count : ℕ) (r : Result TextsWritten Refusal) (out table : List ℕ) : Type 0 where
    pub answer : many_numbers_of r ≡ many_numbers_of (values_answer count (length out₀) (length table₀))
    pub bytes : out ≡ leaves (length out₀) (texts_to value_one count) (values_answer count (length out₀) (length table₀))
    pub words : table ≡ leaves (length table₀) (words_to value_one count) (values_answer count (length out₀) (length table₀))

-- ---- the strings of a list of indices

module _ (f : List ℕ) (lent : Lent) (indices : List ℕ) where
  abbrev pub text_one : ℕ → Value
  text_one k = index_asked f lent (get_or indices k 0)

  abbrev pub texts_by : ℕ → ℕ → Result Head Refusal → Result TextsWritten Refusal
  texts_by room words (Err r) = Err r
  texts_by room words (Ok h) = many_by (length indices) text_one room (words / answer_width)

  unfoldable pub texts_answer : ℕ → ℕ → Result TextsWritten Refusal
  texts_answer room words = texts_by room words (open_of f lent)

  pub record ReadsTexts (out₀ table₀ : List ℕ) (r : Result TextsWritten Refusal) (out table : List ℕ) : Type 0 where
    pub answer : many_numbers_of r ≡ many_numbers_of (texts_answer (length out₀) (length table₀))
    pub bytes : out ≡ leaves (length out₀) (texts_to text_one (length indices)) (texts_answer (length out₀) (length table₀))
    pub words : table ≡ leaves (length table₀) (words_to text_one (length indices)) (texts_answer (length out₀) (length table₀))
