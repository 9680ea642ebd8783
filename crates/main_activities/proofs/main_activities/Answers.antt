-- `main_activities::main_activities` meets its contract: by whether the head is open and the tables fit (`main_open`, `main_closed`).
use mathlib.Core.Path.{sym, ◌∙◌}
use native.Mathlib.Omega.{arith}
use Rattle.system_types.specs.Names.{lends}
use Prim.Native.Nat.{◌<◌}
use Rattle.main_activities.proofs.Opening.{ready, main_open_lem, main_closed}
use Rattle.main_activities.proofs.main_activities.Goals as goal

pub main_in-requires : goal.main_in-requires
main_in-requires c =
    let a = c.args in
    let at-open-main = c.open_main-opened in
    let at-opened = c.in-Ok in
    let at-tables-of = c.tables_of in
    let e = sym at-open-main.ensures ∙ at-opened.is in
    let small : a.attribute_count < 4294967296 = omega (arith, c.ranges.attribute_count) in
    ready a.file.now (lends a.names.now a.area.now) a.items.now a.item_area.now a.nodes.now a.attributes.now
    a.node_count a.attribute_count small e at-tables-of.ensures

pub returns-in-Ok : goal.returns-in-Ok
returns-in-Ok c =
    let a = c.args in
    let at-open-main = c.open_main-opened in
    let at-opened = c.in-Ok in
    let at-tables-of = c.tables_of in
    let at-main-in = c.main_in in
    let e = sym at-open-main.ensures ∙ at-opened.is in
    main_open_lem a.file.now (lends a.names.now a.area.now) a.items.now a.item_area.now a.nodes.now
    a.attributes.now a.list.now a.node_count
    a.attribute_count _ e at-tables-of.ensures at-main-in.ensures

pub returns-in-Err : goal.returns-in-Err
returns-in-Err c =
    let a = c.args in
    let at-open-main = c.open_main-opened in
    let at-opened2 = c.in-Err in
    let at-refuse = c.refuse in
    let e = sym at-open-main.ensures ∙ at-opened2.is in
    main_closed a.file.now (lends a.names.now a.area.now) a.items.now a.item_area.now a.nodes.now
    a.attributes.now a.list.now a.node_count
    a.attribute_count _ e at-refuse.ensures
