-- `first_value::first_value` meets its contract: by whether the head is open and the tables fit (`first-open`, `first-closed`).
use Rattle.first_value.proofs.Search.{shared-opens, first-open, first-closed}
use Rattle.head.proofs.Questions.{open_of-asks}
use Rattle.system_types.specs.Names.{lends}
use Rattle.std.specs.Prelude.{Result, Err}
use mathlib.Core.Path.{◌≡◌, sym, ◌∙◌}
use borrow.Author.Rules.{rules}
use Rattle.errors.specs.declared.FirstValue.{FirstValue}
use Rattle.errors.specs.declared.Refusal.{Refusal}
use Rattle.first_value.proofs.first_value.Goals as goal

pub value_in-requires : goal.value_in-requires
value_in-requires c =
    let a = c.args in
    let e = sym c.open_tables.ensures ∙ c.in_ok-h.was in
    let s = shared-opens a.file.now (lends a.names.now a.area.now) a.nodes.now a.attributes.now a.node_count a.attribute_count e in
    (rw c.tables_of.ensures (open_of-asks a.file.now (lends a.names.now a.area.now) s.opens), s.fits)

pub returns : goal.returns
returns c =
    let a = c.args in
    let e = sym c.open_tables.ensures ∙ c.in_ok-h.was in
    first-open a.file.now (lends a.names.now a.area.now) a.nodes.now a.attributes.now a.tag.now a.name.now
    a.node_count a.attribute_count e c.tables_of.ensures c.value_in.ensures

pub returns-in_err-h : goal.returns-in_err-h
returns-in_err-h c =
    let a = c.args in
    let e = sym c.open_tables.ensures ∙ c.in_err-h.was in
    let r : ◌≡◌ {A = Result FirstValue Refusal} c.from_residual.result (Err c.in_err-h.field-0.0) = search rules in
    rw r (first-closed a.file.now (lends a.names.now a.area.now) a.nodes.now a.attributes.now a.tag.now a.name.now
    a.node_count a.attribute_count e)
