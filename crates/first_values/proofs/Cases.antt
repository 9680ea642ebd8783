-- Many pairs on small tables over the head of file S (docs/FORMAT.md, L4), computed: one table, one theorem.
--
--   area          `a`, `android`, `invalid-element`: 23 bytes
--   three pairs   found, found as a reference, not found; the tables are those of first_value/proofs/Cases
--   cases-right   each answer, and every word of the list afterwards, is that of the table
use Rattle.std.specs.Prelude.{Result, Ok, Err}
use Prim.Native.Nat.{ℕ}
use mathlib.Core.Path.{◌≡◌, refl}
use mathlib.Core.List.{List, [], ◌∷◌, ◌++◌}
use lib.ListN.{take}
use Rattle.field.specs.Le.{u16le, u32le}
use Rattle.common.specs.Header.{header_of}
use Rattle.common.specs.ValueType.{value_type_of, value_type_number, is_reference}
use Rattle.utf.specs.Utf8.{matched, is_whole_form, longest, any_whole, spelt, encode, step8}
use Rattle.utf.specs.Text.{steps_after, bytes_of, all_sound, text_of, eq_bytes}
use Rattle.res_string_pool.specs.Pool.{count_of, numbered, end_of, pool_from, behind_garbage, pool_of, offset_of}
use Rattle.res_string_pool.specs.Content.{split8, split16}
use Rattle.resource_map.specs.Map.{ids_in, ids_by, map_of, id_of}
use Rattle.utf.specs.Plain.{is_ascii}
use Rattle.system_types.specs.Names.{lends, is_good, names_from, name_by_id}
use Rattle.errors.specs.Refusal.{refusal_number, refusal_value, first_numbers_of}
use Rattle.errors.specs.declared.Refusal.TheVariants.{TooSmallError, TablesError, PairsError, AnswersFull}
use Rattle.text.specs.Content.{system_of, string_at, string_of, content_of}
use Rattle.head.specs.Head.{tables_of, opened_of}
use Rattle.head.specs.Entry.{length_check}
use Rattle.head.specs.Ask.{open_of}
use Rattle.first_value.specs.Question.{invalid_element, android_name, runs_from, fit_of, find_node, find_value, shared_of, first_answer}
use Rattle.first_value.proofs.Cases.{head, two, three}
use Rattle.first_values.specs.Pairs.{pairs_from, pairs_of, answers_from, many_answer, answers_after}
use Rattle.errors.specs.declared.Refusal.{Refusal}

unfoldable pub area : List ℕ
area = 97 ∷ android_name ++ invalid_element

unfoldable pub three_pairs : List ℕ
three_pairs = 0 ∷ 1 ∷ 1 ∷ 7 ∷ 8 ∷ 15 ∷ 0 ∷ 1 ∷ 0 ∷ 1 ∷ 0 ∷ 1 ∷ []

-- an answer, and the list afterwards
pub data Outcome : Type 0 where
  outcome : Result ℕ Refusal → List ℕ → Outcome

-- file, pairs, the words of the list, the two counts, and what comes back
pub data Case : Type 0 where
  asked : List ℕ → List ℕ → ℕ → ℕ → ℕ → Result ℕ Refusal → List ℕ → Case

unfoldable pub cases : List Case
cases =
    -- each pair its own answer, and zeros behind: M4, M5
    asked head three_pairs 14 2 3 (Ok 3) (0 ∷ 3 ∷ 9 ∷ 0 ∷ 0 ∷ 7 ∷ 77 ∷ 1 ∷ 12 ∷ 0 ∷ 0 ∷ 0 ∷ 0 ∷ 0 ∷ []) ∷
    -- the same pair twice, and an empty tag that begins at the end of the area: M1, M3
    asked head (0 ∷ 1 ∷ 1 ∷ 7 ∷ 0 ∷ 1 ∷ 1 ∷ 7 ∷ 23 ∷ 0 ∷ 1 ∷ 7 ∷ []) 12 2 3 (Ok 3) (0 ∷ 3 ∷ 9 ∷ 0 ∷ 0 ∷ 3 ∷ 9 ∷ 0 ∷ 12 ∷ 0 ∷ 0 ∷ 0 ∷ []) ∷
    -- no pairs
    asked head [] 3 2 3 (Ok 0) (0 ∷ 0 ∷ 0 ∷ []) ∷
    -- a part that begins behind the end, and one that ends behind it: M3
    asked head (0 ∷ 1 ∷ 1 ∷ 7 ∷ 24 ∷ 0 ∷ 1 ∷ 7 ∷ []) 8 2 3 (Err (PairsError 1)) (0 ∷ 0 ∷ 0 ∷ 0 ∷ 0 ∷ 0 ∷ 0 ∷ 0 ∷ []) ∷
    asked head (0 ∷ 1 ∷ 1 ∷ 23 ∷ []) 4 2 3 (Err (PairsError 0)) (0 ∷ 0 ∷ 0 ∷ 0 ∷ []) ∷
    -- words left over, and a bad pair before them
    asked head (0 ∷ 1 ∷ 1 ∷ 7 ∷ 0 ∷ 1 ∷ 1 ∷ []) 4 2 3 (Err (PairsError 1)) (0 ∷ 0 ∷ 0 ∷ 0 ∷ []) ∷
    asked head (0 ∷ 24 ∷ 1 ∷ 7 ∷ 0 ∷ 1 ∷ 1 ∷ []) 4 2 3 (Err (PairsError 0)) (0 ∷ 0 ∷ 0 ∷ 0 ∷ []) ∷
    -- two places for three pairs: the places count, not the words
    asked head three_pairs 11 2 3 (Err (AnswersFull 2)) (0 ∷ 0 ∷ 0 ∷ 0 ∷ 0 ∷ 0 ∷ 0 ∷ 0 ∷ 0 ∷ 0 ∷ 0 ∷ []) ∷
    -- what refuses any question refuses all of them, also where there is none: M2
    asked head [] 1 2 2 (Err (TablesError 1)) (0 ∷ []) ∷
    asked head (0 ∷ 24 ∷ []) 1 3 3 (Err (TablesError 3)) (0 ∷ []) ∷
    asked (take 7 head) [] 0 3 3 (Err (TooSmallError 7)) [] ∷
    []

abbrev pub outcomes : List Case → List Outcome
outcomes [] = []
outcomes (asked f pairs m n a r l ∷ cs) =
    outcome (many_answer f (lends [] []) two three n a pairs area m) (answers_after f (lends [] []) two three n a pairs area m) ∷ outcomes cs

abbrev pub results : List Case → List Outcome
results [] = []
results (asked f pairs m n a r l ∷ cs) = outcome r l ∷ results cs

pub cases-right : outcomes cases ≡ results cases
unfolding cases area three_pairs head two three u16le u32le header_of value_type_of value_type_number is_reference matched is_whole_form longest any_whole spelt
    encode step8 steps_after bytes_of all_sound text_of eq_bytes count_of numbered end_of pool_from behind_garbage pool_of offset_of split8 split16 ids_in
    ids_by map_of id_of is_ascii is_good names_from name_by_id system_of string_at string_of content_of tables_of opened_of length_check open_of runs_from fit_of
    find_node find_value shared_of first_answer refusal_number refusal_value first_numbers_of pairs_from pairs_of answers_from many_answer answers_after
cases-right = refl
