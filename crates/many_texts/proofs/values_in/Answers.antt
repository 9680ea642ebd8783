-- `many_texts::values_in` meets its contract: too few records, too few places, or all of them.
use mathlib.Core.Path.{◌∙◌}
use native.Mathlib.Omega.{arith}
use Rattle.many_texts.proofs.Going.{gives-refused, gives_same, gives-full, values-unfit, values-fit, settled}
use Rattle.many_texts.proofs.values_in.Goals as goal

pub returns-then-attributes-attribute_place : goal.returns-then-attributes-attribute_place
returns-then-attributes-attribute_place c =
    let a = c.args in
    gives-refused (values-unfit a.attributes.now a.attribute_count _
    (omega (arith, c.attribute_place.ensures, c.if-attributes-attribute_place.true)))
    c.refuse.ensures

pub returns-then-places-count : goal.returns-then-places-count
returns-then-places-count c =
    let a = c.args in
    gives-refused
    (values-fit a.attributes.now a.attribute_count _
    (omega (arith, c.attribute_place.ensures, c.if-attributes-attribute_place.false))
    ∙ gives-full _ _ _ _ c.if-places-count.true)
    c.refuse-then-places-count.ensures

pub put_values-at-requires : goal.put_values-at-requires
put_values-at-requires c =
    let s = c in (
      s.requires.0,
      s.requires.1,
      s.requires.2,
      omega (arith, c.attribute_place.ensures, c.if-attributes-attribute_place.false),
      omega (arith, c.if-places-count.false),
    )

pub settle-requires : goal.settle-requires
settle-requires c = omega (arith, c.put_values-at.ensures.utf16, c.if-places-count.false)

pub returns : goal.returns
returns c =
    let a = c.args in
    gives_same
    (values-fit a.attributes.now a.attribute_count _
    (omega (
      arith,
      c.attribute_place.ensures,
      c.if-attributes-attribute_place.false,
    )))
    (settled c.put_values-at.ensures c.settle.ensures)
