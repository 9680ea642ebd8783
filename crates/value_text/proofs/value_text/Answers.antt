-- `value_text::value_text` meets its contract: by whether the file is open (`reads-open`, `reads-closed`).
use mathlib.Core.Path.{sym, ◌∙◌}
use Rattle.system_types.specs.Names.{lends}
use Rattle.value_text.proofs.Opening.{opens, reads-open, reads-closed}
use Rattle.value_text.proofs.value_text.Goals as goal

pub value_in-requires : goal.value_in-requires
value_in-requires c =
    let a = c.args in
    let lent = lends a.names.now a.area.now in
    let e = sym c.open_value-opened.ensures ∙ c.in-Ok.is in
    let o = opens a.file.now lent a.items.now a.item_area.now e in
    (rw c.tables_of.ensures o.asks, o.good)

pub returns-in-Ok : goal.returns-in-Ok
returns-in-Ok c =
    let a = c.args in
    let lent = lends a.names.now a.area.now in
    let e = sym c.open_value-opened.ensures
    ∙ c.in-Ok.is in
    reads-open a.file.now lent a.items.now a.item_area.now a.out.now _ a.attribute e
    c.tables_of.ensures c.value_in.ensures

pub returns-in-Err : goal.returns-in-Err
returns-in-Err c =
    let a = c.args in
    let lent = lends a.names.now a.area.now in
    let e = sym c.open_value-opened.ensures
    ∙ c.in-Err.is in
    reads-closed a.file.now lent a.items.now a.item_area.now a.out.now _ a.attribute e c.refuse.ensures
