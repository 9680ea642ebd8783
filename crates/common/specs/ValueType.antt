-- The types of values and their numbers: docs/FORMAT.md, C5, C7 (Android's ResourceTypes.h, `Res_value`).
--
--   value_type_of       the type that a number names; Unknown with the number where none does, so 257 is Unknown and not Reference
--   value_type_number   the number of a type
--   is_reference       whether a value of the type refers to another resource: types 1 and 7 alone
--
-- Laws: proofs/Types.antt.
use Rattle.std.specs.Prelude.{ℕ, Bool, cond, ◌||◌, eqb}
use Rattle.common.specs.declared.value.ResourceValueType.{ResourceValueType}
use Rattle.common.specs.declared.value.ResourceValueType.TheVariants.{Null, Reference, Attribute, String}
use Rattle.common.specs.declared.value.ResourceValueType.TheVariants.{Float, Dimension, Fraction, DynamicReference}
use Rattle.common.specs.declared.value.ResourceValueType.TheVariants.{DynamicAttribute, Dec, Hex, Boolean}
use Rattle.common.specs.declared.value.ResourceValueType.TheVariants.{ColorArgb8, ColorRgb8, ColorArgb4, ColorRgb4, Unknown}

unfoldable pub value_type_of : ℕ → ResourceValueType
value_type_of n =
    cond (eqb n 0x00) Null (
    cond (eqb n 0x01) Reference (
    cond (eqb n 0x02) Attribute (
    cond (eqb n 0x03) String (
    cond (eqb n 0x04) Float (
    cond (eqb n 0x05) Dimension (
    cond (eqb n 0x06) Fraction (
    cond (eqb n 0x07) DynamicReference (
    cond (eqb n 0x08) DynamicAttribute (
    cond (eqb n 0x10) Dec (
    cond (eqb n 0x11) Hex (
    cond (eqb n 0x12) Boolean (
    cond (eqb n 0x1c) ColorArgb8 (
    cond (eqb n 0x1d) ColorRgb8 (
    cond (eqb n 0x1e) ColorArgb4 (
    cond (eqb n 0x1f) ColorRgb4 (Unknown n))))))))))))))))

unfoldable pub value_type_number : ResourceValueType → ℕ
value_type_number Null = 0x00
value_type_number Reference = 0x01
value_type_number Attribute = 0x02
value_type_number String = 0x03
value_type_number Float = 0x04
value_type_number Dimension = 0x05
value_type_number Fraction = 0x06
value_type_number DynamicReference = 0x07
value_type_number DynamicAttribute = 0x08
value_type_number Dec = 0x10
value_type_number Hex = 0x11
value_type_number Boolean = 0x12
value_type_number ColorArgb8 = 0x1c
value_type_number ColorRgb8 = 0x1d
value_type_number ColorArgb4 = 0x1e
value_type_number ColorRgb4 = 0x1f
value_type_number (Unknown n) = n

unfoldable pub is_reference : ResourceValueType → Bool
is_reference t = eqb (value_type_number t) 1 || eqb (value_type_number t) 7
