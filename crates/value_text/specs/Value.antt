-- The text of a value, as a page shows it: docs/FORMAT.md, V1 to V12.
--
--   plain_by       the text of a value by its type alone, or nothing: that of a string of the pool, of the name of a resource, of a number
--   plain_state    what became of the text by the type alone: of a string what its damage is told as, and `Cut` past the pool, where no text stood
--   attribute_value  the text of an attribute's value: what the items of its name say, else the plain text; how many set bits no name covers; and what
--                 became of the text, which is whole but for a string's
--   shown         the text of a value, empty where it has none
--   value_open     the head of the file, or the first refusal: the entry checks, the items' 14 among them, then the head's own
--   value_answer   the answer of the question; value_buffer what then stands in the lent buffer, whole
--   ValueReads    THE PROMISE: the numbers of the answer and every byte of the buffer
--
-- Of an attribute only prefix, name, type and data are looked at, not its namespace. A prefix of 2 is that of the leading attribute, whose value is the
-- Android namespace. t is the bytes behind the file's header. Laws: proofs/Opening.antt, proofs/Claimed.antt.
use Rattle.std.specs.Prelude.{ℕ, ◌≡◌, List, [], ◌∷◌, cond, length, replicate, eqb, leb, Option, Some, None, Result, Ok, Err}
use Rattle.errors.specs.Refusal.{value_numbers_of}
use Rattle.errors.specs.declared.Refusal.TheVariants.{NothingFound, TextShort, NoPlainText}
use Rattle.errors.specs.declared.TextState.{TextState}
use Rattle.errors.specs.declared.TextState.TheVariants as state_is
use Rattle.digits.specs.Digits.{signed_text, hex_text}
use Rattle.digits.specs.Written.{fitted}
use Rattle.common.specs.ValueType.{value_type_of}
use Rattle.common.specs.declared.value.ResourceValueType.{ResourceValueType}
use Rattle.common.specs.declared.value.ResourceValueType.TheVariants.{Null, Reference, Attribute as AttributeType, String}
use Rattle.common.specs.declared.value.ResourceValueType.TheVariants.{Float, Dimension, Fraction, DynamicReference}
use Rattle.common.specs.declared.value.ResourceValueType.TheVariants.{DynamicAttribute, Dec, Hex, Boolean}
use Rattle.common.specs.declared.value.ResourceValueType.TheVariants.{ColorArgb8, ColorRgb8, ColorArgb4, ColorRgb4, Unknown}
use Rattle.system_types.specs.Names.{Lent, top_byte, system_name}
use Rattle.text.specs.declared.Head.{Head}
use Rattle.text.specs.Content.{Content, none, cut, some, content_of, string_of, text_in, damage_in, android_uri}
use Rattle.head.specs.Head.{opened_of, tables_in}
use Rattle.head.specs.Entry.{value_with, first_of, entry_checks}
use Rattle.head.specs.Ask.{open_by, state_told}
use Rattle.items.specs.Items.{part_in, items_of, named_in}
use Rattle.items.specs.Values.{Text, nothing, says, attr_text, uncovered_of}
use Rattle.value_text.specs.declared.Attribute.{Attribute}
use Rattle.errors.specs.declared.Refusal.{Refusal}
use Rattle.errors.specs.declared.ValueWritten.{ValueWritten}

-- ---- fixed texts

-- true, false
abbrev pub true_text : List ℕ
true_text = 116 ∷ 114 ∷ 117 ∷ 101 ∷ []

abbrev pub false_text : List ℕ
false_text = 102 ∷ 97 ∷ 108 ∷ 115 ∷ 101 ∷ []

-- ---- by the type alone

abbrev pub bool_text : ℕ → List ℕ
bool_text v = cond (eqb v 0) false_text true_text

-- `@` and the resource's name, whole, or its id
abbrev pub reference_by : List ℕ → ℕ → Option (ℕ × ℕ) → List ℕ
reference_by area v (Some (start, n)) = 64 ∷ part_in area start n
reference_by area v None = 64 ∷ hex_text v

-- the attribute's name, whole; else its id behind `@` where it is the framework's, behind `?` where it is not
abbrev pub attribute_by : List ℕ → ℕ → Option (ℕ × ℕ) → List ℕ
attribute_by area v (Some (start, n)) = part_in area start n
attribute_by area v None = cond (eqb (top_byte v) 1) 64 63 ∷ hex_text v

-- a string is that of the pool, never a system name; past the pool it is empty
unfoldable pub plain_by : Head → List ℕ → Lent → ℕ → ResourceValueType → Text
plain_by h t lent v Reference = says (reference_by lent.area v (system_name v lent.names))
plain_by h t lent v DynamicReference = says (reference_by lent.area v (system_name v lent.names))
plain_by h t lent v AttributeType = says (attribute_by lent.area v (system_name v lent.names))
plain_by h t lent v String = says (text_in (string_of h t v))
plain_by h t lent v Dec = says (signed_text v)
plain_by h t lent v Hex = says (48 ∷ 120 ∷ hex_text v)
plain_by h t lent v Boolean = says (bool_text v)
plain_by h t lent v ColorArgb8 = says (35 ∷ hex_text v)
plain_by h t lent v ColorRgb8 = says (35 ∷ hex_text v)
plain_by h t lent v ColorArgb4 = says (35 ∷ hex_text v)
plain_by h t lent v ColorRgb4 = says (35 ∷ hex_text v)
plain_by h t lent v Null = nothing
plain_by h t lent v Float = nothing
plain_by h t lent v Dimension = nothing
plain_by h t lent v Fraction = nothing
plain_by h t lent v DynamicAttribute = nothing
plain_by h t lent v (Unknown n) = nothing

-- past the pool no text stood, and the text is empty
abbrev pub string_state : Content → TextState
string_state none = state_is.Cut
string_state cut = state_told (damage_in cut)
string_state (some w s) = state_told (damage_in (some w s))

unfoldable pub plain_state : Head → List ℕ → ℕ → ResourceValueType → TextState
plain_state h t v String = string_state (string_of h t v)
plain_state h t v Reference = state_is.Whole
plain_state h t v DynamicReference = state_is.Whole
plain_state h t v AttributeType = state_is.Whole
plain_state h t v Dec = state_is.Whole
plain_state h t v Hex = state_is.Whole
plain_state h t v Boolean = state_is.Whole
plain_state h t v ColorArgb8 = state_is.Whole
plain_state h t v ColorRgb8 = state_is.Whole
plain_state h t v ColorArgb4 = state_is.Whole
plain_state h t v ColorRgb4 = state_is.Whole
plain_state h t v Null = state_is.Whole
plain_state h t v Float = state_is.Whole
plain_state h t v Dimension = state_is.Whole
plain_state h t v Fraction = state_is.Whole
plain_state h t v DynamicAttribute = state_is.Whole
plain_state h t v (Unknown n) = state_is.Whole

-- ---- the text of an attribute's value

-- no_name: the name index has no text; no_text: the type has no plain text, and no item answers; else the text, the uncovered bits, and its state
pub data Value : Type 0 where
  no_name : Value
  no_text : Value
  shows : List ℕ → ℕ → TextState → Value

-- its text, empty where there is none
abbrev pub shown : Value → List ℕ
shown no_name = []
shown no_text = []
shown (shows s u d) = s

-- what the items say comes first; d is what became of the plain text
abbrev pub or_plain : ℕ → TextState → Text → Text → Value
or_plain u d (says s) plain = shows s u state_is.Whole
or_plain u d nothing (says s) = shows s u d
or_plain u d nothing nothing = no_text

module _ (h : Head) (t : List ℕ) (lent : Lent) (items area : List ℕ) where
  -- of an attribute with this name
  unfoldable pub named_value : List ℕ → ℕ → ℕ → Value
  named_value name kind v =
      or_plain (uncovered_of v (named_in area name (items_of items))) (plain_state h t v (value_type_of kind))
      (attr_text area v (named_in area name (items_of items))) (plain_by h t lent v (value_type_of kind))

  abbrev pub value_by : Content → ℕ → ℕ → Value
  value_by none kind v = no_name
  value_by cut kind v = named_value (text_in cut) kind v
  value_by (some w s) kind v = named_value (text_in (some w s)) kind v

  unfoldable pub attribute_value : Attribute → Value
  attribute_value a = cond (eqb a.prefix 2) (shows android_uri 0 state_is.Whole) (value_by (content_of h t lent a.name.0) a.kind a.«data»)

-- ---- the checks

unfoldable pub value_open : List ℕ → Lent → List ℕ → List ℕ → Result Head Refusal
value_open f lent items area = open_by (opened_of f) (first_of (entry_checks f lent (value_with items area)))

-- ---- the answer

-- with room for n bytes
abbrev pub answer_by : ℕ → ℕ → Value → Result ValueWritten Refusal
answer_by n kind no_name = Err NothingFound
answer_by n kind no_text = Err (NoPlainText kind)
answer_by n kind (shows s u d) = cond (leb (length s) n) (Ok (record { length = (length s); uncovered = u; state = d })) (Err (TextShort (length s)))

-- the text and zeros, or zeros
abbrev pub buffer_by : ℕ → Value → List ℕ
buffer_by n no_name = replicate n 0
buffer_by n no_text = replicate n 0
buffer_by n (shows s u d) = fitted s n

abbrev pub answer_in : List ℕ → Lent → List ℕ → List ℕ → ℕ → Attribute → Result Head Refusal → Result ValueWritten Refusal
answer_in f lent items area n a (Err r) = Err r
answer_in f lent items area n a (Ok h) = answer_by n a.kind (attribute_value h (tables_in f h) lent items area a)

abbrev pub buffer_in : List ℕ → Lent → List ℕ → List ℕ → ℕ → Attribute → Result Head Refusal → List ℕ
buffer_in f lent items area n a (Err r) = replicate n 0
buffer_in f lent items area n a (Ok h) = buffer_by n (attribute_value h (tables_in f h) lent items area a)

unfoldable pub value_answer : List ℕ → Lent → List ℕ → List ℕ → ℕ → Attribute → Result ValueWritten Refusal
value_answer f lent items area n a = answer_in f lent items area n a (value_open f lent items area)

unfoldable pub value_buffer : List ℕ → Lent → List ℕ → List ℕ → ℕ → Attribute → List ℕ
value_buffer f lent items area n a = buffer_in f lent items area n a (value_open f lent items area)

pub record ValueReads
    (f : List ℕ) (lent : Lent) (items area before : List ℕ) (a : Attribute) (r : Result ValueWritten Refusal) (after : List ℕ) : Type 0 where
  pub answer : value_numbers_of r ≡ value_numbers_of (value_answer f lent items area (length before) a)
  pub out : after ≡ value_buffer f lent items area (length before) a
