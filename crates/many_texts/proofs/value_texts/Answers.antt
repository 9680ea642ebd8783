-- `many_texts::value_texts` meets its contract: by whether the file is open (`values-open`, `values-closed`). The first item at each place is found once,
-- for the check of the items and for the values.
use mathlib.Core.Path.{refl, sym, ◌∙◌}
use Rattle.system_types.specs.Names.{lends}
use Rattle.value_text.proofs.Opening.{opens}
use Rattle.many_texts.proofs.Going.{values-open, values-closed}
use Rattle.many_texts.proofs.value_texts.Goals as goal

pub put_firsts-requires : goal.put_firsts-requires
put_firsts-requires c = refl

pub open_known-opened-requires : goal.open_known-opened-requires
open_known-opened-requires c = c.put_firsts.ensures

pub values_in-requires : goal.values_in-requires
values_in-requires c =
    let a = c.args in
    let lent = lends a.names.now a.area.now in
    let e = sym c.open_known-opened.ensures ∙ c.in-Ok.is in
    let o = opens a.file.now lent a.items.now a.item_area.now e in
    (rw c.tables_of.ensures o.asks, o.good, c.put_firsts.ensures)

pub returns-in-Ok : goal.returns-in-Ok
returns-in-Ok c =
    let a = c.args in
    let lent = lends a.names.now a.area.now in
    let e = sym c.open_known-opened.ensures ∙ c.in-Ok.is in
    values-open a.file.now lent a.items.now a.item_area.now a.attributes.now a.out.now a.answers.now a.attribute_count e
    c.tables_of.ensures c.values_in.ensures

pub returns-in-Err : goal.returns-in-Err
returns-in-Err c =
    let a = c.args in
    let lent = lends a.names.now a.area.now in
    let e = sym c.open_known-opened.ensures ∙ c.in-Err.is in
    values-closed a.file.now lent a.items.now a.item_area.now a.attributes.now a.out.now a.answers.now a.attribute_count e
    c.refuse.ensures
