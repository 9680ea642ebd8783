-- `value_text::open_known` meets its contract: the checks in their order (`open_in`, `open-out`).
use Rattle.std.specs.Prelude.{Result, Err}
use mathlib.Core.Path.{◌≡◌, sym, ◌∙◌}
use borrow.Author.Rules.{rules}
use Rattle.errors.specs.declared.Refusal.{Refusal}
use Rattle.text.specs.declared.Head.{Head}
use Rattle.system_types.specs.Names.{lends}
use Rattle.value_text.proofs.Opening.{open_in, open-out}
use Rattle.value_text.proofs.open_known.Goals as goal

pub check_known-requires : goal.check_known-requires
check_known-requires c = c.requires

pub returns : goal.returns
returns c =
    let a = c.args in
    let lent = lends a.names.now a.area.now in
    open_in a.file.now lent a.items.now a.item_area.now
    (sym c.enter.ensures ∙ c.in_ok-opened.was) c.check_known.ensures c.open_behind.ensures

pub returns-in_err-opened : goal.returns-in_err-opened
returns-in_err-opened c =
    let a = c.args in
    let lent = lends a.names.now a.area.now in
    let r : ◌≡◌ {A = Result Head Refusal} c.from_residual.result (Err c.in_err-opened.field-0.0) = search rules in
    r ∙ open-out a.file.now lent a.items.now a.item_area.now (sym c.enter.ensures ∙ c.in_err-opened.was)
