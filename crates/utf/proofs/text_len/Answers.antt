-- `utf::text_len` meets its contract: the empty text where it is refused, and otherwise its steps' bytes.
use mathlib.Core.Path.{sym, ◌∙◌}
use Rattle.utf.proofs.Turns.{text_of-refused, text_of-kept}
use Rattle.utf.proofs.text_len.Goals as goal

pub returns-then-is_refused : goal.returns-then-is_refused
returns-then-is_refused c = rw (text_of-refused _ _ (sym c.is_refused.ensures ∙ c.if-is_refused.true))

pub returns : goal.returns
returns c = rw (text_of-kept _ _ (sym c.is_refused.ensures ∙ c.if-is_refused.false)) c.bytes_len.ensures
