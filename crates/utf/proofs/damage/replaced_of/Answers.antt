-- `utf::damage::replaced_of` meets its contract: UTF-16 has no U+FFFD put in, and UTF-8 one for each bad step.
use Rattle.utf.proofs.BadSteps.{replaced-utf16, replaced-utf8}
use Rattle.utf.proofs.damage.replaced_of.Goals as goal

pub returns-then-utf16 : goal.returns-then-utf16
returns-then-utf16 c = replaced-utf16 _ _ c.if-utf16.true

pub returns : goal.returns
returns c = replaced-utf8 _ _ _ c.if-utf16.false c.replaced_in.ensures
