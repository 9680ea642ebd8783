-- `main_activities::says::named_is` meets its contract: a text of the items (`named-said`), or none (`named-plain`).
use native.Mathlib.Omega.{arith}
use Rattle.system_types.specs.Names.{lends}
use Rattle.main_activities.proofs.Saying.{named-said, named-plain}
use Rattle.main_activities.proofs.says.named_is.Goals as goal

pub attr_value-said-requires : goal.attr_value-said-requires
attr_value-said-requires c = omega (arith, c.requires.2)

pub is_front-requires : goal.is_front-requires
is_front-requires c =
    let p = c.requires in
    let at-attr-value = c.attr_value-said in
    record { some = p.1.some; fits = omega (arith, at-attr-value.auto.out, p.1.fits) }

pub returns-in-Some : goal.returns-in-Some
returns-in-Some c =
    let a = c.args in
    let at-attr-value = c.attr_value-said in
    let at-is-front = c.is_front in
    let lent = lends a.names.now a.area.now in
    λ name found. named-said a.h a.t.now lent a.items.now a.item_area.now name a.kind a.v a.run found
    a.expected.now at-attr-value.ensures c.in-Some.is at-is-front.ensures

pub plain_is-requires : goal.plain_is-requires
plain_is-requires c =
    let p = c.requires in
    let at-attr-value = c.attr_value-said in
    (p.0, record { some = p.1.some; fits = omega (arith, at-attr-value.auto.out, p.1.fits) })

pub returns : goal.returns
returns c =
    let a = c.args in
    let at-attr-value = c.attr_value-said in
    let at-plain-is = c.plain_is in
    let lent = lends a.names.now a.area.now in
    λ name found. named-plain a.h a.t.now lent a.items.now a.item_area.now name a.kind a.v a.run found
    a.expected.now at-attr-value.ensures c.in_default.is at-plain-is.ensures
