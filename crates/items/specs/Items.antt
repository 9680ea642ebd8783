-- The named values of attributes that the caller lends, six words an item over an area of bytes: docs/FORMAT.md, V3, V4.
--
--   item_at       item k: attribute name (start, length), kind (0 enum, 1 flag), item name (start, length), value
--   items_of      the whole items in table order; words that make no whole item are left out
--   table_of      `Ok` where every item keeps the rule; else the first that breaks it, or the number of whole items where words remain
--   named_in      the items of an attribute, by the bytes of its name, in table order
--   enum_of       the first of some items with a value
--
-- The rule: both names have at least one byte, lie in the area and are ASCII (`is_ascii` of utf), the kind is 0 or 1, and items of one
-- attribute stand together and have one kind: behind an item of the same attribute comes the same kind, behind one of another
-- attribute an attribute that no earlier item has. Names are compared by their bytes, not by where they stand. No words at all are
-- `Ok`. Laws: proofs/Laws.antt, proofs/Together.antt.
use Rattle.std.specs.Prelude.{ℕ, zero, suc, ◌+◌, ◌*◌, ◌/◌, ◌%◌, List, [], ◌∷◌, Bool, true, false, cond, not, ◌&&◌, length, take, drop, get_or, leb, eqb}
use Rattle.std.specs.Prelude.{Option, Some, None, Result, Ok, Err}
use Rattle.records.specs.Words.{item_width, item_attribute, item_attribute_length, item_kind, item_name, item_name_length, item_value}
use Rattle.utf.specs.Text.{eq_bytes}
use Rattle.utf.specs.Plain.{is_ascii}
use Rattle.items.specs.declared.Item.{Item}

-- ---- the items

unfoldable pub item_at : List ℕ → ℕ → Item
item_at w k =
    record {
      attribute = get_or w (item_width * k + item_attribute) 0;
      attribute_len = get_or w (item_width * k + item_attribute_length) 0;
      kind = get_or w (item_width * k + item_kind) 0;
      name = get_or w (item_width * k + item_name) 0;
      name_len = get_or w (item_width * k + item_name_length) 0;
      value = get_or w (item_width * k + item_value) 0;
    }

-- n items from number k on
unfoldable pub items_from : List ℕ → ℕ → ℕ → List Item
items_from w k zero = []
items_from w k (suc n) = item_at w k ∷ items_from w (suc k) n

abbrev pub items_of : List ℕ → List Item
items_of w = items_from w 0 (length w / item_width)

-- n bytes of the area, or as many of them as it has
abbrev pub part_in : List ℕ → ℕ → ℕ → List ℕ
part_in area start n = take n (drop start area)

abbrev pub attribute_of : List ℕ → Item → List ℕ
attribute_of area i = part_in area i.attribute i.attribute_len

abbrev pub item_name_of : List ℕ → Item → List ℕ
item_name_of area i = part_in area i.name i.name_len

abbrev pub same_attribute : List ℕ → Item → Item → Bool
same_attribute area i j = eq_bytes (attribute_of area i) (attribute_of area j)

-- ---- the rule

unfoldable pub is_name : List ℕ → ℕ → ℕ → Bool
is_name area start n = leb 1 n && (leb (start + n) (length area) && is_ascii (part_in area start n))

-- none of these items has the attribute of i
unfoldable pub is_new : List ℕ → List Item → Item → Bool
is_new area [] i = true
is_new area (p ∷ ps) i = not (same_attribute area p i) && is_new area ps i

-- behind items that keep the rule, the last first
abbrev pub stands : List ℕ → List Item → Item → Bool
stands area [] i = true
stands area (p ∷ ps) i = cond (same_attribute area p i) (eqb p.kind i.kind) (is_new area ps i)

unfoldable pub is_good : List ℕ → List Item → Item → Bool
is_good area before i =
    is_name area i.attribute i.attribute_len && (is_name area i.name i.name_len && (leb i.kind 1 && stands area before i))

-- the items from number k on, behind those before; `end` where all keep the rule
unfoldable pub rule_from : List ℕ → Result (Unit {0}) ℕ → List Item → ℕ → List Item → Result (Unit {0}) ℕ
rule_from area end before k [] = end
rule_from area end before k (i ∷ is) = cond (is_good area before i) (rule_from area end (i ∷ before) (suc k) is) (Err k)

-- words that remain behind the whole items
abbrev pub end_of : List ℕ → Result (Unit {0}) ℕ
end_of w = cond (eqb (length w % item_width) 0) (Ok tt) (Err (length w / item_width))

unfoldable pub table_of : List ℕ → List ℕ → Result (Unit {0}) ℕ
table_of area w = rule_from area (end_of w) [] 0 (items_of w)

-- ---- looking up

abbrev pub when_named : Bool → Item → List Item → List Item
when_named true i is = i ∷ is
when_named false i is = is

unfoldable pub named_in : List ℕ → List ℕ → List Item → List Item
named_in area name [] = []
named_in area name (i ∷ is) = when_named (eq_bytes (attribute_of area i) name) i (named_in area name is)

unfoldable pub enum_of : ℕ → List Item → Option Item
enum_of v [] = None
enum_of v (i ∷ is) = cond (eqb i.value v) (Some i) (enum_of v is)
