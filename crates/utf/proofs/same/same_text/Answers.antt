-- `utf::same::same_text` meets its contract: a text that is refused is empty, and two that are not are compared step by step.
use mathlib.Core.Path.{sym, ◌∙◌}
use Rattle.utf.proofs.Turns.{text_of-refused, text_of-kept, text_of-empty}
use Rattle.utf.proofs.same.same_text.Goals as goal

pub returns-else-no_b : goal.returns-else-no_b
returns-else-no_b c =
    let a = c.args in
    rw (text_of-refused a.utf16_a a.a.now (sym c.is_refused.ensures ∙ c.if-is_refused.true))
    (c.is_empty.ensures ∙ (text_of-empty a.utf16_b a.b.now (sym c.is_refused-no_b.ensures ∙ c.if-no_b.false)).1)

pub returns-then-no_b-2 : goal.returns-then-no_b-2
returns-then-no_b-2 c =
    let a = c.args in
    rw (text_of-refused a.utf16_b a.b.now (sym c.is_refused-no_b.ensures ∙ c.if-no_b-2.true))
    (c.is_empty-then-no_b-2.ensures ∙ (text_of-empty a.utf16_a a.a.now (sym c.is_refused.ensures ∙ c.if-is_refused.false)).0)

pub returns : goal.returns
returns c =
    let a = c.args in
    rw (
      text_of-kept a.utf16_a a.a.now (sym c.is_refused.ensures ∙ c.if-is_refused.false),
      text_of-kept a.utf16_b a.b.now (sym c.is_refused-no_b.ensures ∙ c.if-no_b-2.false),
    ) c.same_steps.ensures
