-- Flags: items are taken in table order, each taken item removes its bits, and the bits that are left are counted: docs/FORMAT.md, V5, V6.
--
--   takes       an item's value is taken where it is not 0 and all its bits are left
--   taken       the items that are taken; left_of what they leave of the data
--   uncovered   how many set bits no taken item covered: the ones of what is left
--   joined      the names of items with `|` between them
--   sum_of       the sum of the items' values: a measure by which `taken` can be checked
--
-- The taken values and what is left add up to the data (`taken-sum` of proofs/FlagLaws.antt), and uncovered is 0 exactly where the taken
-- values alone do (`uncovered-none`).
use Rattle.std.specs.Prelude.{ℕ, zero, suc, ◌+◌, ◌/◌, ◌%◌, Bool, true, false, cond, not, ◌&&◌, List, [], ◌∷◌, ◌++◌, eqb}
use Rattle.std.specs.Int.Bits.{bit_and, bit_xor}
use Rattle.items.specs.declared.Item.{Item}
use Rattle.items.specs.Items.{item_name_of, when_named}

abbrev pub takes : ℕ → ℕ → Bool
takes left v = not (eqb v 0) && eqb (bit_and v left) v

abbrev pub left_after : ℕ → ℕ → ℕ
left_after left v = cond (takes left v) (bit_xor left v) left

unfoldable pub taken : ℕ → List Item → List Item
taken left [] = []
taken left (i ∷ is) = when_named (takes left i.value) i (taken (left_after left i.value) is)

unfoldable pub left_of : ℕ → List Item → ℕ
left_of left [] = left
left_of left (i ∷ is) = left_of (left_after left i.value) is

-- the sum of the lowest k bits
unfoldable pub bit_sum : ℕ → ℕ → ℕ
bit_sum zero n = 0
bit_sum (suc k) n = n % 2 + bit_sum k (n / 2)

abbrev pub uncovered : ℕ → List Item → ℕ
uncovered n is = bit_sum 32 (left_of n is)

-- what the values of items add up to
unfoldable pub sum_of : List Item → ℕ
sum_of [] = 0
sum_of (i ∷ is) = i.value + sum_of is

-- ---- the text

-- `|` where a name stands there already
abbrev pub bar : Bool → List ℕ
bar true = 124 ∷ []
bar false = []

-- `some`: whether a name stands before these
unfoldable pub joined_from : List ℕ → Bool → List Item → List ℕ
joined_from area some [] = []
joined_from area some (i ∷ is) = bar some ++ item_name_of area i ++ joined_from area true is

abbrev pub joined : List ℕ → List Item → List ℕ
joined area is = joined_from area false is
