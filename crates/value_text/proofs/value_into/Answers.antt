-- `value_text::value_into` meets its contract: the leading attribute (`value-uri`), no name (`value_none`), a name (`value-named`).
use mathlib.Core.Path.{refl, sym, ◌∙◌}
use Rattle.system_types.specs.Names.{lends}
use Rattle.text.specs.Content.{text_in}
use Rattle.text.specs.Inner.Found.{part_of}
use Rattle.value_text.proofs.Looking.{value-uri, value_none, value-named}
use Rattle.value_text.proofs.value_into.Goals as goal

pub returns-then-a-eq2 : goal.returns-then-a-eq2
returns-then-a-eq2 c =
    let a = c.args in
    let lent = lends a.names.now a.area.now in
    value-uri a.h a.t.now lent a.items.now a.item_area.now a.a c.if-a-eq2.true
    c.uri_into.ensures

pub returns-then-not-is_found : goal.returns-then-not-is_found
returns-then-not-is_found c =
    let a = c.args in
    let lent = lends a.names.now a.area.now in
    let e = sym c.is_found.ensures ∙ c.if-not-is_found.true in
    value_none a.h a.t.now lent a.items.now a.item_area.now a.a c.find-f.result
    c.if-a-eq2.false c.find-f.ensures.same e refl refl

pub find_item-first-requires : goal.find_item-first-requires
find_item-first-requires c = (
  c.find-f.ensures.inside,
  sym c.is_found.ensures ∙ c.if-not-is_found.false,
  c.requires.1,
)

pub run_of-run-requires : goal.run_of-run-requires
run_of-run-requires c = c.requires.1

pub named_into-requires : goal.named_into-requires
named_into-requires c =
    let a = c.args in
    let name = text_in (part_of a.h.utf16 a.t.now a.area.now c.find-f.result) in (
      c.requires.0,
      (c.run_of-run.ensures name c.find_item-first.ensures).fits,
    )

pub returns : goal.returns
returns c =
    let a = c.args in
    let lent = lends a.names.now a.area.now in
    let f = c.find-f.result in
    let e = sym c.is_found.ensures ∙ c.if-not-is_found.false in
    let name = text_in (part_of a.h.utf16 a.t.now a.area.now f) in
    let g = c.named_into.ensures name (c.run_of-run.ensures name c.find_item-first.ensures) in
    value-named a.h a.t.now lent a.items.now a.item_area.now a.a f
    c.if-a-eq2.false
    c.find-f.ensures.same e g
