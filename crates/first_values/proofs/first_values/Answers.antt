-- `first_values::first_values` meets its contract: by whether the head is open and the tables fit (`many-open`, `many-closed`).
use mathlib.Core.Path.{sym, ◌∙◌}
use Rattle.system_types.specs.Names.{lends}
use Rattle.head.proofs.Questions.{open_of-asks}
use Rattle.first_value.proofs.Search.{shared-opens}
use Rattle.first_values.proofs.Laws.{many-open, many-closed}
use Rattle.first_values.proofs.first_values.Goals as goal

pub answers_in-requires : goal.answers_in-requires
answers_in-requires c =
    let a = c.args in
    let e = sym c.open_tables-opened.ensures ∙ c.in-Ok.is in
    let s = shared-opens a.file.now (lends a.names.now a.area.now) a.nodes.now a.attributes.now a.node_count a.attribute_count e in
    (rw c.tables_of.ensures (open_of-asks a.file.now (lends a.names.now a.area.now) s.opens), s.fits)

pub returns-in-Ok : goal.returns-in-Ok
returns-in-Ok c =
    let a = c.args in
    let e = sym c.open_tables-opened.ensures ∙ c.in-Ok.is in
    many-open a.file.now (lends a.names.now a.area.now) a.nodes.now a.attributes.now a.pairs.now a.pair_area.now
    a.answers.now a.node_count a.attribute_count _ _ e c.tables_of.ensures c.answers_in.ensures

pub returns-in-Err : goal.returns-in-Err
returns-in-Err c =
    let a = c.args in
    let e = sym c.open_tables-opened.ensures ∙ c.in-Err.is in
    many-closed a.file.now (lends a.names.now a.area.now) a.nodes.now a.attributes.now a.pairs.now a.pair_area.now
    a.answers.now a.node_count a.attribute_count _ _ e c.refuse.ensures
