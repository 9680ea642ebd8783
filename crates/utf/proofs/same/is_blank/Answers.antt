-- `utf::same::is_blank` meets its contract: a text that is refused is empty, and another is where it has no bytes.
use mathlib.Core.Path.{◌≡◌, sym, ◌∙◌}
use mathlib.Core.List.{[]}
use mathlib.Core.Bool.{true}
use Rattle.utf.specs.Text.{text_of, eq_bytes}
use Rattle.utf.proofs.Turns.{text_of-refused, text_of-empty}
use Rattle.utf.proofs.same.is_blank.Goals as goal

pub returns-then-is_refused : goal.returns-then-is_refused
unfolding eq_bytes
returns-then-is_refused c =
    let empty : true ≡ eq_bytes [] (text_of true c.args.s.now) =
    rw (text_of-refused true c.args.s.now (sym c.is_refused.ensures ∙ c.if-is_refused.true)) in
    c.if-is_refused.true ∙ empty

pub returns-else-is_refused : goal.returns-else-is_refused
returns-else-is_refused c = c.is_empty.ensures ∙ (text_of-empty true c.args.s.now (sym c.is_refused.ensures ∙ c.if-is_refused.false)).1
