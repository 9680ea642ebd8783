-- The question on the head of file S (docs/FORMAT.md, L4), whose one string `a` is the name that is asked about, computed: one table, one
-- theorem.
--
--   area, enums, flags   items of `a` over the bytes `axyz`: x and y for 5 and 6; x and y for the bits 1 and 3
--   cases-right          each answer and each buffer is that of the table
use Rattle.std.specs.Prelude.{Result, Ok, Err}
use Prim.Native.Nat.{ℕ}
use mathlib.Core.Path.{◌≡◌, refl}
use mathlib.Core.List.{List, [], ◌∷◌, ◌++◌}
use lib.ListN.{take, replicate}
use Rattle.field.specs.Le.{u16le, u32le}
use Rattle.common.specs.Header.{header_of}
use Rattle.common.specs.ValueType.{value_type_of}
use Rattle.utf.specs.Utf8.{matched, is_whole_form, longest, any_whole, spelt, encode, step8}
use Rattle.utf.specs.Text.{steps_after, bytes_of, all_sound, text_of, damage_of, eq_bytes}
use Rattle.utf.specs.Plain.{is_ascii}
use Rattle.res_string_pool.specs.Pool.{count_of, numbered, end_of, pool_from, behind_garbage, pool_of, offset_of}
use Rattle.res_string_pool.specs.Content.{split8, split16}
use Rattle.resource_map.specs.Map.{ids_in, ids_by, map_of, id_of}
use Rattle.system_types.specs.Names.{lends, is_good, names_from, name_by_id}
use Rattle.errors.specs.declared.Refusal.TheVariants.{NothingFound, TextShort, ItemsError, NoPlainText}
use Rattle.errors.specs.declared.TextState.TheVariants.{Whole, Cut}
use Rattle.text.specs.Content.{system_of, string_at, string_of, content_of}
use Rattle.head.specs.Head.{tables_of, opened_of}
use Rattle.head.specs.Entry.{length_check}
use Rattle.digits.specs.Digits.{digits, signed_text, hex_digits}
use Rattle.digits.specs.Written.{fitted}
use Rattle.items.specs.Items.{item_at, items_from, is_name, is_new, is_good as is_good_item, rule_from, table_of, named_in, enum_of}
use Rattle.items.specs.Flags.{taken, left_of, bit_sum, joined_from}
use Rattle.items.specs.Values.{attr_text, uncovered_of}
use Rattle.value_text.specs.declared.Attribute.{Attribute}
use Rattle.value_text.specs.Value.{plain_by, plain_state, named_value, attribute_value, value_open, value_answer, value_buffer}
use Rattle.errors.specs.declared.Refusal.{Refusal}
use Rattle.errors.specs.declared.ValueWritten.{ValueWritten}

unfoldable pub head : List ℕ
head =
    3 ∷ 0 ∷ 8 ∷ 0 ∷ 52 ∷ 0 ∷ 0 ∷ 0 ∷ 1 ∷ 0 ∷ 28 ∷ 0 ∷ 36 ∷ 0 ∷ 0 ∷ 0 ∷ 1 ∷ 0 ∷ 0 ∷ 0 ∷ 0 ∷ 0 ∷ 0 ∷ 0 ∷ 0 ∷ 1 ∷ 0 ∷ 0 ∷
    32 ∷ 0 ∷ 0 ∷ 0 ∷ 0 ∷ 0 ∷ 0 ∷ 0 ∷ 0 ∷ 0 ∷ 0 ∷ 0 ∷ 1 ∷ 1 ∷ 97 ∷ 0 ∷ 128 ∷ 1 ∷ 8 ∷ 0 ∷ 8 ∷ 0 ∷ 0 ∷ 0 ∷ []

unfoldable pub area : List ℕ
area = 97 ∷ 120 ∷ 121 ∷ 122 ∷ []

unfoldable pub enums : List ℕ
enums = 0 ∷ 1 ∷ 0 ∷ 1 ∷ 1 ∷ 5 ∷ 0 ∷ 1 ∷ 0 ∷ 2 ∷ 1 ∷ 6 ∷ []

unfoldable pub flags : List ℕ
flags = 0 ∷ 1 ∷ 1 ∷ 1 ∷ 1 ∷ 1 ∷ 0 ∷ 1 ∷ 1 ∷ 2 ∷ 1 ∷ 3 ∷ []

abbrev pub asking : ℕ → ℕ → ℕ → ℕ → Attribute
asking prefix name kind v = record { owner = 9; prefix = prefix; name = record { 0 = name }; kind = kind; «data» = v; ns = record { 0 = 7 } }

-- file, items, prefix, name index, type, data, room, and the answer and the buffer
pub data Case : Type 0 where
  asked : List ℕ → List ℕ → Attribute → ℕ → Result ValueWritten Refusal → List ℕ → Case

unfoldable pub cases : List Case
cases =
    -- an enum's second item, whatever the prefix and the type: V4
    asked head enums (asking 0 0 16 6) 3 (Ok (record { length = 1; uncovered = 0; state = Whole })) (121 ∷ 0 ∷ 0 ∷ []) ∷
    asked head enums (asking 3 0 4 6) 1 (Ok (record { length = 1; uncovered = 0; state = Whole })) (121 ∷ []) ∷
    -- an enum without such an item: the number without a sign
    asked head enums (asking 1 0 16 4294967295) 10 (Ok (record { length = 10; uncovered = 0; state = Whole })) (52 ∷ 50 ∷ 57 ∷ 52 ∷ 57 ∷ 54 ∷ 55 ∷ 50 ∷ 57 ∷ 53 ∷ []) ∷
    -- flags in table order: x takes bit 1, so y is not taken, and one bit is left
    asked head flags (asking 1 0 17 3) 2 (Ok (record { length = 1; uncovered = 1; state = Whole })) (120 ∷ 0 ∷ []) ∷
    -- no flag taken: the plain text, and both bits uncovered
    asked head flags (asking 1 0 17 6) 10 (Ok (record { length = 10; uncovered = 2; state = Whole })) (48 ∷ 120 ∷ 48 ∷ 48 ∷ 48 ∷ 48 ∷ 48 ∷ 48 ∷ 48 ∷ 54 ∷ []) ∷
    -- by the type alone
    asked head [] (asking 1 0 16 4294967295) 2 (Ok (record { length = 2; uncovered = 0; state = Whole })) (45 ∷ 49 ∷ []) ∷
    asked head [] (asking 1 0 3 0) 1 (Ok (record { length = 1; uncovered = 0; state = Whole })) (97 ∷ []) ∷
    asked head [] (asking 1 0 3 9) 0 (Ok (record { length = 0; uncovered = 0; state = Cut })) [] ∷
    asked head [] (asking 1 0 1 0) 9 (Ok (record { length = 9; uncovered = 0; state = Whole })) (64 ∷ 48 ∷ 48 ∷ 48 ∷ 48 ∷ 48 ∷ 48 ∷ 48 ∷ 48 ∷ []) ∷
    asked head [] (asking 1 0 18 2) 4 (Ok (record { length = 4; uncovered = 0; state = Whole })) (116 ∷ 114 ∷ 117 ∷ 101 ∷ []) ∷
    -- no plain text; a type of more than a byte has none
    asked head [] (asking 1 0 4 0) 2 (Err (NoPlainText 4)) (0 ∷ 0 ∷ []) ∷
    asked head [] (asking 1 0 259 0) 1 (Err (NoPlainText 259)) (0 ∷ []) ∷
    -- a name index without a text, before the type is looked at; not for the leading attribute
    asked head [] (asking 1 5 4 0) 1 (Err NothingFound) (0 ∷ []) ∷
    asked head [] (asking 2 5 4 0) 41 (Err (TextShort 42)) (replicate 41 0) ∷
    -- items at odds: kinds of one attribute mixed, words left over, before a file that is too short
    asked head (take 8 enums ++ (1 ∷ 2 ∷ 1 ∷ 6 ∷ [])) (asking 1 0 16 6) 1 (Err (ItemsError 1)) (0 ∷ []) ∷
    asked (take 7 head) (take 5 enums) (asking 1 0 16 6) 1 (Err (ItemsError 0)) (0 ∷ []) ∷
    []

-- what a question gets: the answer, and the buffer
pub data Got : Type 0 where
  got : Result ValueWritten Refusal → List ℕ → Got

abbrev pub answers : List Case → List Got
answers [] = []
answers (asked f items a n r after ∷ cs) =
    got (value_answer f (lends [] []) items area n a) (value_buffer f (lends [] []) items area n a) ∷ answers cs

abbrev pub results : List Case → List Got
results [] = []
results (asked f items a n r after ∷ cs) = got r after ∷ results cs

pub cases-right : answers cases ≡ results cases
unfolding cases head area enums flags u16le u32le header_of value_type_of matched is_whole_form longest any_whole spelt encode step8 steps_after bytes_of
    all_sound text_of eq_bytes is_ascii count_of numbered end_of pool_from behind_garbage pool_of offset_of split8 split16 ids_in ids_by map_of id_of is_good
    names_from name_by_id system_of string_at string_of content_of tables_of opened_of length_check digits signed_text hex_digits fitted item_at items_from
    is_name is_new is_good_item rule_from table_of named_in enum_of taken left_of bit_sum joined_from attr_text uncovered_of plain_by plain_state damage_of named_value attribute_value
    value_open value_answer value_buffer
cases-right = refl
