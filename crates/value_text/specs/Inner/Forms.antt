-- How the code goes over the types of a value: types that are written alike have one form. No claim reaches this file.
use Rattle.std.specs.Prelude.{ℕ, Bool, true, false, List, [], ◌∷◌}
use Rattle.digits.specs.Digits.{signed_text, hex_text}
use Rattle.common.specs.declared.value.ResourceValueType.{ResourceValueType}
use Rattle.common.specs.declared.value.ResourceValueType.TheVariants.{Null, Reference as ReferenceType, Attribute as AttributeType, String}
use Rattle.common.specs.declared.value.ResourceValueType.TheVariants.{Float, Dimension, Fraction, DynamicReference}
use Rattle.common.specs.declared.value.ResourceValueType.TheVariants.{DynamicAttribute, Dec, Hex, Boolean}
use Rattle.common.specs.declared.value.ResourceValueType.TheVariants.{ColorArgb8, ColorRgb8, ColorArgb4, ColorRgb4, Unknown}
use Rattle.errors.specs.declared.TextState.{TextState}
use Rattle.errors.specs.declared.TextState.TheVariants as state_is
use Rattle.system_types.specs.Names.{Lent, system_name}
use Rattle.text.specs.declared.Head.{Head}
use Rattle.text.specs.Content.{string_of, text_in}
use Rattle.value_text.specs.declared.plain.Form.{Form}
use Rattle.value_text.specs.declared.plain.Form.TheVariants.{Reference, Attribute, Pool, Number, Word, Truth, Color, Other}
use Rattle.value_text.specs.Value.{bool_text, reference_by, attribute_by, string_state}

unfoldable pub form_of : ResourceValueType → Form
form_of Null = Other
form_of ReferenceType = Reference
form_of AttributeType = Attribute
form_of String = Pool
form_of Float = Other
form_of Dimension = Other
form_of Fraction = Other
form_of DynamicReference = Reference
form_of DynamicAttribute = Other
form_of Dec = Number
form_of Hex = Word
form_of Boolean = Truth
form_of ColorArgb8 = Color
form_of ColorRgb8 = Color
form_of ColorArgb4 = Color
form_of ColorRgb4 = Color
form_of (Unknown n) = Other

unfoldable pub form_text : Head → List ℕ → Lent → ℕ → Form → List ℕ
form_text h t lent v Reference = reference_by lent.area v (system_name v lent.names)
form_text h t lent v Attribute = attribute_by lent.area v (system_name v lent.names)
form_text h t lent v Pool = text_in (string_of h t v)
form_text h t lent v Number = signed_text v
form_text h t lent v Word = 48 ∷ 120 ∷ hex_text v
form_text h t lent v Truth = bool_text v
form_text h t lent v Color = 35 ∷ hex_text v
form_text h t lent v Other = []

abbrev pub form_state : Head → List ℕ → ℕ → Form → TextState
form_state h t v Reference = state_is.Whole
form_state h t v Attribute = state_is.Whole
form_state h t v Pool = string_state (string_of h t v)
form_state h t v Number = state_is.Whole
form_state h t v Word = state_is.Whole
form_state h t v Truth = state_is.Whole
form_state h t v Color = state_is.Whole
form_state h t v Other = state_is.Whole

abbrev pub is_other : Form → Bool
is_other Reference = false
is_other Attribute = false
is_other Pool = false
is_other Number = false
is_other Word = false
is_other Truth = false
is_other Color = false
is_other Other = true

abbrev pub is_pool : Form → Bool
is_pool Reference = false
is_pool Attribute = false
is_pool Pool = true
is_pool Number = false
is_pool Word = false
is_pool Truth = false
is_pool Color = false
is_pool Other = false
