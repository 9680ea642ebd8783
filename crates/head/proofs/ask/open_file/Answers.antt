-- `head::ask::open_file` meets its contract: behind the way in the head (`open_of-in`), else the check that failed (`open_of-out`).
use Rattle.std.specs.Prelude.{Result, Err}
use mathlib.Core.Path.{◌≡◌, sym, ◌∙◌}
use borrow.Author.Rules.{rules}
use Rattle.errors.specs.declared.Refusal.{Refusal}
use Rattle.text.specs.declared.Head.{Head}
use Rattle.system_types.specs.Names.{lends}
use Rattle.head.proofs.Questions.{open_of-in, open_of-out}
use Rattle.head.proofs.ask.open_file.Goals as goal

pub returns : goal.returns
returns c =
    let a = c.args in
    let e = sym c.enter.ensures ∙ c.in_ok-enter.was in
    c.head_read.ensures ∙ open_of-in a.file.now (lends a.names.now a.area.now) e

pub returns-in_err-enter : goal.returns-in_err-enter
returns-in_err-enter c =
    let a = c.args in
    let e = sym c.enter.ensures ∙ c.in_err-enter.was in
    let r : ◌≡◌ {A = Result Head Refusal} c.from_residual.result (Err c.in_err-enter.field-0.0) = search rules in
    r ∙ open_of-out a.file.now (lends a.names.now a.area.now) e
