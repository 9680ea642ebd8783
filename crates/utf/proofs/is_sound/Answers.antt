-- `utf::is_sound` meets its contract. Invariant: what was passed is sound (`Ran`). Measure: the bytes left.
use mathlib.Core.Path.{sym, ◌∙◌}
use Rattle.utf.proofs.Turns.{end-sound}
use Rattle.utf.proofs.is_sound.Goals as goal

pub returns : goal.returns
returns c = sym (end-sound _ _ _ c.loop-at-test.false) ∙ c.loop-at.invariant.rest
