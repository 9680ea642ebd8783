-- `value_text::named_into` meets its contract: a text of the items (`named-said`), or none (`named-plain`).
use native.Mathlib.Omega.{arith}
use Rattle.system_types.specs.Names.{lends}
use Rattle.value_text.proofs.Front.{named-said, named-plain}
use Rattle.value_text.proofs.named_into.Goals as goal

pub attr_value-said-requires : goal.attr_value-said-requires
attr_value-said-requires c = omega (arith, c.requires.1)

pub returns-in-Some : goal.returns-in-Some
returns-in-Some c =
    let a = c.args in
    let lent = lends a.names.now a.area.now in
    λ name found. named-said a.h a.t.now lent a.items.now a.item_area.now name a.kind a.v a.run found
    c.attr_value-said.ensures c.in-Some.is

pub returns : goal.returns
returns c =
    let a = c.args in
    let lent = lends a.names.now a.area.now in
    λ name found. named-plain a.h a.t.now lent a.items.now a.item_area.now name a.kind a.v a.run found
    c.attr_value-said.ensures c.in_default.is c.plain_into.ensures
