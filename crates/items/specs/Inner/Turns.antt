-- How the code goes over the items of an attribute: no claim reaches this file.
--
--   FirstNamed  r is the first item of an attribute, or the number of items where none is of it
--   EndOf       r is the number behind the items that stand together with an item and have its attribute
--   RunOf       the items of an attribute are those of a run, which may be empty; run_items are these
--   Turned      what a flag's item does to what is left, to the text and to whether a name stands there
--   Put         all of them: the text from a place on, what is left, and whether a name was taken
--   Spoken      what `attr_value` answers and writes
use Rattle.std.specs.Prelude.{ℕ, ◌-◌, ◌/◌, ◌≤◌, ◌<◌, ◌≡◌, Bool, true, false, cond, ◌||◌, List, [], ◌∷◌, ◌++◌, length, unwrap_or}
use Rattle.std.specs.Option.{is_some as is_there}
use Rattle.records.specs.Words.{item_width}
use Rattle.digits.specs.Written.{Wrote}
use Rattle.items.specs.declared.Item.{Item}
use Rattle.items.specs.declared.Flags.{Flags}
use Rattle.items.specs.declared.Run.{Run}
use Rattle.items.specs.declared.Said.{Said}
use Rattle.items.specs.Items.{item_at, items_from, items_of, attribute_of, item_name_of, named_in}
use Rattle.items.specs.Flags.{takes, left_after, taken, left_of, bar, joined}
use Rattle.items.specs.Values.{attr_text, is_said, said, uncovered_of}

abbrev pub rest_from : List ℕ → List ℕ → List ℕ → ℕ → List Item
rest_from area name w k = named_in area name (items_from w k (length w / item_width - k))

pub record FirstNamed (area name w : List ℕ) (r : ℕ) : Type 0 where
  pub fits : r ≤ length w / item_width
  pub here : r < length w / item_width → attribute_of area (item_at w r) ≡ name
  pub all : named_in area name (items_of w) ≡ rest_from area name w r

pub record EndOf (area w : List ℕ) (first r : ℕ) : Type 0 where
  pub fits : r ≤ length w / item_width
  pub behind : first < r
  pub same : (k : ℕ) → first ≤ k → k < r → attribute_of area (item_at w k) ≡ attribute_of area (item_at w first)
  pub other : r < length w / item_width → attribute_of area (item_at w r) ≡ attribute_of area (item_at w first) → ⊥

abbrev pub run_items : List ℕ → Run → List Item
run_items w r = items_from w r.first (r.end - r.first)

pub record RunOf (area name w : List ℕ) (r : Run) : Type 0 where
  pub fits : r.end ≤ length w / item_width
  pub all : named_in area name (items_of w) ≡ run_items w r

abbrev pub is_some : List Item → Bool
is_some [] = false
is_some (i ∷ is) = true

pub record Turned (area : List ℕ) (i : Item) (st : Flags) (l : List ℕ) (r : Flags) (l' : List ℕ) : Type 0 where
  pub left : r.left ≡ left_after st.left i.value
  pub some : r.some ≡ (takes st.left i.value || st.some)
  pub wrote : Wrote 4294967296 st.at (cond (takes st.left i.value) (bar st.some ++ item_name_of area i) []) l r.at l'

-- `most` is 32 names of up to 4294967295 bytes, each with `|`
pub record Put (area : List ℕ) (n : ℕ) (is : List Item) (p : ℕ) (l : List ℕ) (r : Flags) (l' : List ℕ) : Type 0 where
  pub text : Wrote 137438953472 p (joined area (taken n is)) l r.at l'
  pub left : r.left ≡ left_of n is
  pub some : r.some ≡ is_some (taken n is)

pub record Spoken (area : List ℕ) (n : ℕ) (is : List Item) (l : List ℕ) (r : Said) (l' : List ℕ) : Type 0 where
  pub text : Wrote 137438953472 0 (said (attr_text area n is)) l (unwrap_or r.length 0) l'
  pub some : is_there r.length ≡ is_said (attr_text area n is)
  pub uncovered : r.uncovered ≡ uncovered_of n is
