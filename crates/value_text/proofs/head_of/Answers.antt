-- `value_text::head_of` meets its contract: a head that is whole, and one of which a part is short.
use Rattle.std.specs.Prelude.{Err}
use mathlib.Core.Path.{sym, ap, ◌∙◌}
use Rattle.head.proofs.Questions.{head_read-whole, head_read-cut}
use Rattle.value_text.proofs.head_of.Goals as goal

pub returns-then-is_whole : goal.returns-then-is_whole
returns-then-is_whole c = head_read-whole c.args.opened (sym c.is_whole.ensures ∙ c.if-is_whole.true)

pub returns : goal.returns
returns c = ap Err c.refusal_of.ensures ∙ head_read-cut c.args.opened
    (sym c.is_whole.ensures ∙ c.if-is_whole.false)
