-- The first-value question on small tables over the head of file S (docs/FORMAT.md, L4), computed: one table, one theorem.
--
--   head          header, pool with the one string `a`, empty map
--   two, three    two nodes, of tags `a` and `invalid-element`, with one and two attributes
--   cases-right   each answer is that of the table
use Rattle.std.specs.Prelude.{Result, Ok, Err}
use Rattle.records.specs.Words.{no_parent, node_words, attribute_words}
use Prim.Native.Nat.{ℕ}
use mathlib.Core.Path.{◌≡◌, refl}
use mathlib.Core.List.{List, [], ◌∷◌, ◌++◌}
use mathlib.Core.Bool.{true, false}
use Rattle.field.specs.Le.{u16le, u32le}
use Rattle.common.specs.Header.{header_of}
use Rattle.common.specs.ValueType.{value_type_of, value_type_number, is_reference}
use Rattle.utf.specs.Utf8.{matched, is_whole_form, longest, any_whole, spelt, encode, step8}
use Rattle.utf.specs.Text.{steps_after, bytes_of, all_sound, text_of, eq_bytes}
use Rattle.res_string_pool.specs.Pool.{count_of, numbered, end_of, pool_from, behind_garbage, pool_of, offset_of}
use Rattle.res_string_pool.specs.Content.{split8, split16}
use Rattle.resource_map.specs.Map.{ids_in, ids_by, map_of, id_of}
use Rattle.utf.specs.Plain.{is_ascii}
use Rattle.system_types.specs.Names.{lends, is_good, names_from, name_by_id}
use Rattle.errors.specs.declared.Refusal.TheVariants.{NothingFound, TablesError}
use Rattle.text.specs.Content.{system_of, string_at, string_of, content_of}
use Rattle.head.specs.Head.{tables_of, opened_of}
use Rattle.head.specs.Entry.{length_check}
use Rattle.head.specs.Ask.{open_of}
use Rattle.first_value.specs.Question.{invalid_element, android_name, runs_from, fit_of, find_node, find_value, shared_of, first_answer}
use Rattle.errors.specs.declared.FirstValue.{FirstValue}
use Rattle.errors.specs.declared.Refusal.{Refusal}

unfoldable pub head : List ℕ
head =
    3 ∷ 0 ∷ 8 ∷ 0 ∷ 52 ∷ 0 ∷ 0 ∷ 0 ∷ 1 ∷ 0 ∷ 28 ∷ 0 ∷ 36 ∷ 0 ∷ 0 ∷ 0 ∷ 1 ∷ 0 ∷ 0 ∷ 0 ∷ 0 ∷ 0 ∷ 0 ∷ 0 ∷ 0 ∷ 1 ∷ 0 ∷ 0 ∷
    32 ∷ 0 ∷ 0 ∷ 0 ∷ 0 ∷ 0 ∷ 0 ∷ 0 ∷ 0 ∷ 0 ∷ 0 ∷ 0 ∷ 1 ∷ 1 ∷ 97 ∷ 0 ∷ 128 ∷ 1 ∷ 8 ∷ 0 ∷ 8 ∷ 0 ∷ 0 ∷ 0 ∷ []

unfoldable pub two : List ℕ
two = node_words 0 0 no_parent 0 1 3 ++ node_words 0 1 0 1 2 4

unfoldable pub three : List ℕ
three = attribute_words 0 2 0 3 9 0 ++ attribute_words 1 0 0 7 77 5 ++ attribute_words 1 3 5 2 8 0

-- nodes, attributes, tag, name, the two counts, and the answer
pub data Case : Type 0 where
  asked : List ℕ → List ℕ → List ℕ → List ℕ → ℕ → ℕ → Result FirstValue Refusal → Case

unfoldable pub cases : List Case
cases =
    -- prefix 2 is `android`: Q8
    asked two three (97 ∷ []) android_name 2 3 (Ok (record { kind = 3; «data» = 9; reference = false })) ∷
    -- a fixed word of 1 is `invalid-element`, and type 7 a reference: Q7, C7
    asked two three invalid_element (97 ∷ []) 2 3 (Ok (record { kind = 7; «data» = 77; reference = true })) ∷
    -- the first node of the tag has no such attribute: Q5
    asked two three (97 ∷ []) (97 ∷ []) 2 3 (Err NothingFound) ∷
    -- an index without a text equals nothing, not even the empty name
    asked two three invalid_element [] 2 3 (Err NothingFound) ∷
    -- node 1 passes the attribute count, though node 0 would be found: Q6
    asked two three (97 ∷ []) android_name 2 2 (Err (TablesError 1)) ∷
    -- counts past the words, before any node
    asked two three (97 ∷ []) android_name 3 0 (Err (TablesError 3)) ∷
    asked two three (97 ∷ []) android_name 2 4 (Err (TablesError 2)) ∷
    -- a first attribute past the count, of a node without attributes
    asked (node_words 0 0 0 4 0 3) three (98 ∷ []) android_name 1 3 (Err (TablesError 0)) ∷
    -- a sum that does not wrap
    asked (node_words 0 0 0 4294967295 2 3) three (98 ∷ []) android_name 1 3 (Err (TablesError 0)) ∷
    -- a fixed word of 2 leaves the text of the name
    asked (node_words 0 2 0 0 1 3) three (97 ∷ []) android_name 1 3 (Ok (record { kind = 3; «data» = 9; reference = false })) ∷
    asked (node_words 0 2 0 0 1 3) three invalid_element android_name 1 3 (Err NothingFound) ∷
    -- no nodes
    asked two three (97 ∷ []) android_name 0 0 (Err NothingFound) ∷
    []

abbrev pub answers : List Case → List (Result FirstValue Refusal)
answers [] = []
answers (asked ns ats tag name n a r ∷ cs) = first_answer head (lends [] []) ns ats tag name n a ∷ answers cs

abbrev pub results : List Case → List (Result FirstValue Refusal)
results [] = []
results (asked ns ats tag name n a r ∷ cs) = r ∷ results cs

pub cases-right : answers cases ≡ results cases
unfolding cases head two three u16le u32le header_of value_type_of value_type_number is_reference matched is_whole_form longest any_whole spelt encode step8
    steps_after bytes_of all_sound text_of eq_bytes count_of numbered end_of pool_from behind_garbage pool_of offset_of split8 split16 ids_in ids_by map_of
    id_of is_ascii is_good names_from name_by_id system_of string_at string_of content_of tables_of opened_of length_check open_of runs_from fit_of
    find_node find_value shared_of first_answer
cases-right = refl
