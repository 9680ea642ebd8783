-- `utf::damage::state_of` meets its contract: by whether the text is sound, and then by its encoding.
use mathlib.Core.Path.{sym, ◌∙◌}
use Rattle.utf.proofs.BadSteps.{state-whole, state-utf16, state-utf8}
use Rattle.utf.proofs.damage.state_of.Goals as goal

pub returns-then-sound : goal.returns-then-sound
returns-then-sound c = state-whole _ _ (sym c.is_sound-sound.ensures ∙ c.if-sound.true)

pub returns-then-utf16 : goal.returns-then-utf16
returns-then-utf16 c = state-utf16 _ _ c.if-utf16.true (sym c.is_sound-sound.ensures ∙ c.if-sound.false)

pub returns : goal.returns
returns c = state-utf8 _ _ c.if-utf16.false (sym c.is_sound-sound.ensures ∙ c.if-sound.false)
