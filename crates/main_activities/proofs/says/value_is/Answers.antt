-- `main_activities::says::value_is` meets its contract: the leading attribute (`value-uri`), no name (`value_none`), a name (`value-named`).
use mathlib.Core.Path.{refl, sym, ◌∙◌}
use Rattle.system_types.specs.Names.{lends}
use Rattle.main_activities.proofs.Saying.{value-uri, value_none, value-named}
use Rattle.text.specs.Content.{text_in}
use Rattle.text.specs.Inner.Found.{part_of}
use Rattle.main_activities.proofs.says.value_is.Goals as goal

pub returns-then-a-eq2 : goal.returns-then-a-eq2
returns-then-a-eq2 c =
    let a = c.args in
    let if1 = c.if-a-eq2 in
    let at-same-bytes = c.same_bytes in
    value-uri a.h a.t.now (lends a.names.now a.area.now) a.items.now a.item_area.now a.a a.expected.now
    if1.true at-same-bytes.ensures

pub find-f-requires : goal.find-f-requires
find-f-requires c =
    let p = c.requires in
    p.0

pub returns-then-not-is_found : goal.returns-then-not-is_found
returns-then-not-is_found c =
    let a = c.args in
    let at-find = c.find-f in
    let if1 = c.if-a-eq2 in
    let at-is-found = c.is_found in
    let if2 = c.if-not-is_found in
    value_none a.h a.t.now (lends a.names.now a.area.now) a.items.now a.item_area.now a.a a.expected.now
    at-find.result if1.false at-find.ensures.same (sym at-is-found.ensures ∙ if2.true) refl

pub find_item-first-requires : goal.find_item-first-requires
find_item-first-requires c =
    let at-find = c.find-f in
    let at-is-found = c.is_found in
    let if2 = c.if-not-is_found in
    let p = c.requires in
    (at-find.ensures.inside, sym at-is-found.ensures ∙ if2.false, p.1)

pub run_of-run-requires : goal.run_of-run-requires
run_of-run-requires c = c.requires.1

pub named_is-requires : goal.named_is-requires
named_is-requires c =
    let s = c in
    let p = s.requires in
    let a = s.args in
    let name = text_in (part_of a.h.utf16 a.t.now a.area.now c.find-f.result) in
    (p.0, record { some = p.2; fits = p.3 }, (c.run_of-run.ensures name c.find_item-first.ensures).fits)

pub returns : goal.returns
returns c =
    let a = c.args in
    let at-find = c.find-f in
    let if1 = c.if-a-eq2 in
    let at-is-found = c.is_found in
    let if2 = c.if-not-is_found in
    let at-named-is = c.named_is in
    let at-find-item = c.find_item-first in
    let at-run-of = c.run_of-run in
    let f = at-find.result in
    let name = text_in (part_of a.h.utf16 a.t.now a.area.now f) in
    value-named a.h a.t.now (lends a.names.now a.area.now) a.items.now a.item_area.now a.a a.expected.now f
    if1.false at-find.ensures.same (sym at-is-found.ensures ∙ if2.false)
    (at-named-is.ensures name (at-run-of.ensures name at-find-item.ensures))
