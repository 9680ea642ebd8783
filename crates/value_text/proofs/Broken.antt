-- Versions of the question that cannot meet the promise of specs/Value.antt, each of every version of its sort. No contract cites this file.
--
--   Version          what a version answers and leaves in the buffer, for each question
--   decimal-broken   one that shows the number of every value of an open file
--   first-broken     one that shows the first item of every attribute that has items
--
-- The question that shuts both out: the second item of an enum, in proofs/Cases.antt.
use Rattle.std.specs.Prelude.{Result, Ok}
use Prim.Native.Nat.{ℕ}
use native.Mathlib.Omega.{arith}
use mathlib.Core.Path.{◌≡◌, refl, sym, ap, ◌∙◌}
use mathlib.Core.List.{List, [], ◌∷◌}
use lib.ListN.{length, get_or}
use Rattle.field.specs.Le.{u16le, u32le}
use Rattle.common.specs.Header.{header_of}
use Rattle.common.specs.ValueType.{value_type_of}
use Rattle.utf.specs.Utf8.{matched, is_whole_form, longest, any_whole, spelt, encode, step8}
use Rattle.utf.specs.Text.{steps_after, bytes_of, all_sound, text_of, eq_bytes}
use Rattle.utf.specs.Plain.{is_ascii}
use Rattle.res_string_pool.specs.Pool.{count_of, numbered, end_of, pool_from, behind_garbage, pool_of, offset_of}
use Rattle.res_string_pool.specs.Content.{split8, split16}
use Rattle.resource_map.specs.Map.{ids_in, ids_by, map_of, id_of}
use Rattle.system_types.specs.Names.{Lent, lends, is_good, names_from, name_by_id}
use Rattle.text.specs.declared.Head.{Head}
use Rattle.text.specs.Content.{system_of, string_at, string_of, content_of, text_in}
use Rattle.head.specs.Head.{tables_of, opened_of, tables_in}
use Rattle.head.specs.Entry.{length_check}
use Rattle.digits.specs.Digits.{digits, decimal}
use Rattle.digits.specs.Written.{fitted}
use Rattle.items.specs.Items.{item_at, items_from, items_of, is_name, is_new, is_good as is_good_item, rule_from, table_of, item_name_of, named_in, enum_of}
use Rattle.items.specs.Values.{attr_text, uncovered_of}
use Rattle.items.specs.declared.Item.{Item}
use Rattle.value_text.specs.declared.Attribute.{Attribute}
use Rattle.value_text.specs.Value.{named_value, attribute_value, value_open, value_buffer, ValueReads}
use Rattle.value_text.proofs.Cases.{head, area, enums, asking}
use Rattle.errors.specs.declared.Refusal.{Refusal}
use Rattle.errors.specs.declared.ValueWritten.{ValueWritten}

pub record Version : Type 0 where
  pub answer : List ℕ → Lent → List ℕ → List ℕ → List ℕ → Attribute → Result ValueWritten Refusal
  pub after : List ℕ → Lent → List ℕ → List ℕ → List ℕ → Attribute → List ℕ
  pub meets : (f : List ℕ) (lent : Lent) (items area before : List ℕ) (a : Attribute) →
      ValueReads f lent items area before a (answer f lent items area before a) (after f lent items area before a)

-- what the promise leaves of the buffer for that question
sample-buffer : value_buffer head (lends [] []) enums area 3 (asking 0 0 16 6) ≡ 121 ∷ 0 ∷ 0 ∷ []
unfolding head area enums u16le u32le header_of value_type_of matched is_whole_form longest any_whole spelt encode step8 steps_after bytes_of all_sound text_of
    eq_bytes is_ascii count_of numbered end_of pool_from behind_garbage pool_of offset_of split8 split16 ids_in ids_by map_of id_of is_good names_from name_by_id
    system_of string_at string_of content_of tables_of opened_of length_check digits fitted item_at items_from is_name is_new is_good_item rule_from table_of
    named_in enum_of attr_text uncovered_of named_value attribute_value value_open value_buffer
sample-buffer = refl

sample-open : value_open head (lends [] []) enums area ≡ Ok (opened_of head).head
unfolding head area enums u16le u32le header_of matched is_whole_form longest any_whole spelt encode step8 eq_bytes is_ascii count_of numbered end_of pool_from
    behind_garbage pool_of offset_of ids_in ids_by map_of id_of is_good names_from tables_of opened_of length_check item_at items_from is_name is_new is_good_item
    rule_from table_of value_open
sample-open = refl

module _ (v : Version) where
  abbrev left : List ℕ
  left = v.after head (lends [] []) enums area (0 ∷ 0 ∷ 0 ∷ []) (asking 0 0 16 6)

  left_is : left ≡ 121 ∷ 0 ∷ 0 ∷ []
  left_is = (v.meets head (lends [] []) enums area (0 ∷ 0 ∷ 0 ∷ []) (asking 0 0 16 6)).out ∙ sample-buffer

  pub decimal-broken :
      ((f : List ℕ) (lent : Lent) (items items-area before : List ℕ) (a : Attribute) (h : Head) →
      value_open f lent items items-area ≡ Ok h →
      v.after f lent items items-area before a ≡ fitted (decimal a.«data») (length before)) →
      ⊥
  unfolding digits fitted
  decimal-broken always =
      let e = always head (lends [] []) enums area (0 ∷ 0 ∷ 0 ∷ []) (asking 0 0 16 6) (opened_of head).head sample-open in
      let z : ◌≡◌ {A = ℕ} 121 54 = ap (λ (l : List ℕ). get_or l 0 0) (sym left_is ∙ e) in
      omega arith

  pub first-broken :
      ((f : List ℕ) (lent : Lent) (items items-area before : List ℕ) (a : Attribute) (h : Head) (i : Item) (is : List Item) →
      value_open f lent items items-area ≡ Ok h →
      named_in items-area (text_in (content_of h (tables_in f h) lent a.name.0)) (items_of items) ≡ i ∷ is →
      v.after f lent items items-area before a ≡ fitted (item_name_of items-area i) (length before)) →
      ⊥
  unfolding head area enums u16le u32le header_of matched is_whole_form longest any_whole spelt encode step8 steps_after bytes_of all_sound text_of eq_bytes
      count_of numbered end_of pool_from behind_garbage pool_of offset_of split8 split16 ids_in ids_by map_of id_of name_by_id system_of string_at string_of content_of
      tables_of opened_of item_at items_from named_in fitted
  first-broken always =
      let e =
      always head (lends [] []) enums area (0 ∷ 0 ∷ 0 ∷ []) (asking 0 0 16 6) (opened_of head).head (item_at enums 0) (item_at enums 1 ∷ []) sample-open
      refl in
      let z : ◌≡◌ {A = ℕ} 121 120 = ap (λ (l : List ℕ). get_or l 0 0) (sym left_is ∙ e) in
      omega arith
