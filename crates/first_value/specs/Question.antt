-- The first-value question: docs/FORMAT.md, Q4 to Q8.
--
--   FirstReads    THE PROMISE of the first-value question, by the numbers of its answer
--   first_answer   the answer: the head's refusals, 13 where the tables do not fit, 12 where nothing is found, or type, data and reference
--   shared_of      what does not depend on tag and name: the head, or the first refusal, 13 the last of them
--   fit_of         whether the lent tables fit the counts; the node count, or the first node that does not
--   tag_is         whether a node has the tag; name_is whether an attribute has the name
--   find_node      the first of n nodes with the tag: where its attributes begin and how many it has
--   find_value     the first of n attributes with the name: its type and its data
--
-- The tables may be any words: nothing is asked of them. A record is read where it stands, words past the end as 0.
-- Laws: proofs/Laws.antt, proofs/Search.antt. Computed on small tables: proofs/Cases.antt.
use Rattle.std.specs.Prelude.{ℕ, zero, suc, ◌+◌, ◌*◌, ◌≡◌, List, [], ◌∷◌, Bool, cond, ◌||◌, length, drop, get_or, ltb, eqb, Option, Some, None, Result, Ok, Err}
use Rattle.utf.specs.Text.{eq_bytes}
use Rattle.common.specs.ValueType.{is_reference, value_type_of}
use Rattle.errors.specs.declared.Refusal.TheVariants.{NothingFound, TablesError}
use Rattle.errors.specs.Refusal.{first_numbers_of}
use Rattle.text.specs.declared.Head.{Head}
use Rattle.text.specs.Content.{content_of, is_text}
use Rattle.head.specs.Head.{tables_in}
use Rattle.head.specs.Ask.{open_of}
use Rattle.records.specs.Words.{node_width, node_name, node_fixed, node_first, node_count}
use Rattle.records.specs.Words.{attribute_width, attribute_prefix, attribute_name, attribute_type, attribute_data}
use Rattle.system_types.specs.Names.{Lent}
use Rattle.errors.specs.declared.FirstValue.{FirstValue}
use Rattle.errors.specs.declared.Refusal.{Refusal}

-- ---- fixed texts

-- invalid-element
abbrev pub invalid_element : List ℕ
invalid_element = 105 ∷ 110 ∷ 118 ∷ 97 ∷ 108 ∷ 105 ∷ 100 ∷ 45 ∷ 101 ∷ 108 ∷ 101 ∷ 109 ∷ 101 ∷ 110 ∷ 116 ∷ []

-- android
abbrev pub android_name : List ℕ
android_name = 97 ∷ 110 ∷ 100 ∷ 114 ∷ 111 ∷ 105 ∷ 100 ∷ []

-- ---- whether the tables fit, refusal 13: Q6

-- the counts, by the words of both tables
abbrev pub counts_fit : List ℕ → List ℕ → ℕ → ℕ → Result (Unit {0}) ℕ
counts_fit ns ats nodes attributes = cond (ltb (length ns) (node_width * nodes) || ltb (length ats) (attribute_width * attributes)) (Err nodes) (Ok tt)

-- the first of n nodes, numbered from k, whose attributes pass the attribute count, also where there are none
unfoldable pub runs_from : ℕ → ℕ → ℕ → List ℕ → Result (Unit {0}) ℕ
runs_from attributes k zero w = (Ok tt)
runs_from attributes k (suc n) w = cond (ltb attributes (get_or w node_first 0 + get_or w node_count 0)) (Err k) (runs_from attributes (k + 1) n (drop node_width w))

abbrev pub first_unfit : Result (Unit {0}) ℕ → Result (Unit {0}) ℕ → Result (Unit {0}) ℕ
first_unfit (Err k) b = Err k
first_unfit (Ok tt) b = b

-- the counts are looked at before any node
unfoldable pub fit_of : List ℕ → List ℕ → ℕ → ℕ → Result (Unit {0}) ℕ
fit_of ns ats nodes attributes = first_unfit (counts_fit ns ats nodes attributes) (runs_from attributes 0 nodes ns)

-- ---- the search

-- Q5, C7: of type 1 and 7 alone it is a reference
abbrev pub found_by : ℕ → ℕ → Result FirstValue Refusal
found_by kind value = Ok (record { kind = kind; «data» = value; reference = (is_reference (value_type_of kind)) })

module _ (h : Head) (t : List ℕ) (lent : Lent) where
  -- whether the text of an index is these bytes; an index without a text is never
  abbrev pub text_is : ℕ → List ℕ → Bool
  text_is index s = is_text (content_of h t lent index) s

  -- Q7: a fixed word of 1 alone means `invalid-element`
  abbrev pub tag_is : List ℕ → ℕ → ℕ → Bool
  tag_is tag fixed index = cond (eqb fixed 1) (eq_bytes tag invalid_element) (text_is index tag)

  -- Q8: prefix 2 is named `android`; prefixes play no other part
  abbrev pub name_is : List ℕ → ℕ → ℕ → Bool
  name_is name prefix index = cond (eqb prefix 2) (eq_bytes name android_name) (text_is index name)

  -- a node is name index, fixed word, parent, first attribute, number of attributes, line: B9
  unfoldable pub find_node : List ℕ → ℕ → List ℕ → Option (ℕ × ℕ)
  find_node tag zero w = None
  find_node tag (suc n) w = cond (tag_is tag (get_or w node_fixed 0) (get_or w node_name 0)) (Some ((get_or w node_first 0), (get_or w node_count 0))) (find_node tag n (drop node_width w))

  -- an attribute is owner, prefix, name index, type, data: B11
  unfoldable pub find_value : List ℕ → ℕ → List ℕ → Result FirstValue Refusal
  find_value name zero w = Err NothingFound
  find_value name (suc n) w = cond (name_is name (get_or w attribute_prefix 0) (get_or w attribute_name 0)) (found_by (get_or w attribute_type 0) (get_or w attribute_data 0)) (find_value name n (drop attribute_width w))

  -- Q5: the attributes of that one node
  abbrev pub value_by : List ℕ → List ℕ → Option (ℕ × ℕ) → Result FirstValue Refusal
  value_by name ats None = Err NothingFound
  value_by name ats (Some (first, number)) = find_value name number (drop (attribute_width * first) ats)

-- ---- the answer: Q4

abbrev pub fitted_by : Head → Result (Unit {0}) ℕ → Result Head Refusal
fitted_by h (Err k) = Err (TablesError k)
fitted_by h (Ok tt) = Ok h

-- the tables are looked at before any of them is searched
abbrev pub shared_by : Result (Unit {0}) ℕ → Result Head Refusal → Result Head Refusal
shared_by fit (Err r) = Err r
shared_by fit (Ok h) = fitted_by h fit

unfoldable pub shared_of : List ℕ → Lent → List ℕ → List ℕ → ℕ → ℕ → Result Head Refusal
shared_of f lent ns ats nodes attributes = shared_by (fit_of ns ats nodes attributes) (open_of f lent)

abbrev pub first_asked_by : List ℕ → Lent → List ℕ → List ℕ → List ℕ → List ℕ → ℕ → Result Head Refusal → Result FirstValue Refusal
first_asked_by f lent ns ats tag name nodes (Err r) = Err r
first_asked_by f lent ns ats tag name nodes (Ok h) = value_by h (tables_in f h) lent name ats (find_node h (tables_in f h) lent tag nodes ns)

unfoldable pub first_answer : List ℕ → Lent → List ℕ → List ℕ → List ℕ → List ℕ → ℕ → ℕ → Result FirstValue Refusal
first_answer f lent ns ats tag name nodes attributes = first_asked_by f lent ns ats tag name nodes (shared_of f lent ns ats nodes attributes)

pub record FirstReads (f : List ℕ) (lent : Lent) (ns ats tag name : List ℕ) (nodes attributes : ℕ) (r : Result FirstValue Refusal) : Type 0 where
  pub answer : first_numbers_of r ≡ first_numbers_of (first_answer f lent ns ats tag name nodes attributes)
