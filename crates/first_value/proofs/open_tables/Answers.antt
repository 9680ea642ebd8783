-- `first_value::open_tables` meets its contract: by whether the file is open (`shared-open`, `shared-closed`).
use Rattle.std.specs.Prelude.{Result, Err}
use mathlib.Core.Path.{◌≡◌, sym, ◌∙◌}
use borrow.Author.Rules.{rules}
use Rattle.errors.specs.declared.Refusal.{Refusal}
use Rattle.text.specs.declared.Head.{Head}
use Rattle.system_types.specs.Names.{lends}
use Rattle.first_value.proofs.Search.{shared-open, shared-closed}
use Rattle.first_value.proofs.open_tables.Goals as goal

pub returns : goal.returns
returns c =
    let a = c.args in
    let e = sym c.open_file.ensures ∙ c.in_ok-h.was in
    shared-open a.file.now (lends a.names.now a.area.now) a.nodes.now a.attributes.now a.node_count a.attribute_count e
    c.fit_of.ensures c.fitted.ensures

pub returns-in_err-h : goal.returns-in_err-h
returns-in_err-h c =
    let a = c.args in
    let e = sym c.open_file.ensures ∙ c.in_err-h.was in
    let r : ◌≡◌ {A = Result Head Refusal} c.from_residual.result (Err c.in_err-h.field-0.0) = search rules in
    r ∙ shared-closed a.file.now (lends a.names.now a.area.now) a.nodes.now a.attributes.now a.node_count a.attribute_count e
