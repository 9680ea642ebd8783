-- What the items of an attribute say of a value: docs/FORMAT.md, V4 to V6.
--
--   attr_text      the text, or nothing: of an enum always one; of a flag the names taken, and nothing where none is
--   uncovered_of   how many set bits of a flag no name covered; 0 for an enum, and where no item has the attribute's name
--
-- The items given are those of one attribute (`named_in`), which have one kind: that of the first.
use Rattle.std.specs.Prelude.{ℕ, Bool, true, false, cond, List, [], ◌∷◌, eqb, Option, Some, None}
use Rattle.digits.specs.Digits.{decimal}
use Rattle.items.specs.declared.Item.{Item}
use Rattle.items.specs.Items.{item_name_of, enum_of}
use Rattle.items.specs.Flags.{taken, uncovered, joined}

pub data Text : Type 0 where
  nothing : Text
  says : List ℕ → Text

abbrev pub is_said : Text → Bool
is_said nothing = false
is_said (says s) = true

abbrev pub said : Text → List ℕ
said nothing = []
said (says s) = s

-- the first item with the value, else the number without a sign
abbrev pub enum_text : List ℕ → ℕ → Option Item → List ℕ
enum_text area v (Some i) = item_name_of area i
enum_text area v None = decimal v

abbrev pub flag_text : List ℕ → List Item → Text
flag_text area [] = nothing
flag_text area (i ∷ is) = says (joined area (i ∷ is))

unfoldable pub attr_text : List ℕ → ℕ → List Item → Text
attr_text area v [] = nothing
attr_text area v (i ∷ is) = cond (eqb i.kind 0) (says (enum_text area v (enum_of v (i ∷ is)))) (flag_text area (taken v (i ∷ is)))

unfoldable pub uncovered_of : ℕ → List Item → ℕ
uncovered_of v [] = 0
uncovered_of v (i ∷ is) = cond (eqb i.kind 0) 0 (uncovered v (i ∷ is))
