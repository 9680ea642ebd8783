-- `many_texts::put_told` meets its contract: by what was told.
use mathlib.Core.Path.{refl}
use Rattle.errors.specs.Refusal.{refusal_number}
use Rattle.value_text.specs.Value.{no_name, no_text}
use Rattle.many_texts.proofs.Going.{puts-told, puts-no-name, puts-no-text}
use Rattle.many_texts.proofs.put_told.Goals as goal

pub returns-in-Shown : goal.returns-in-Shown
returns-in-Shown c = puts-told c.in-Shown.is c.put_shown.ensures

pub returns-in-NoName : goal.returns-in-NoName
unfolding refusal_number
returns-in-NoName c = puts-no-name c.in-NoName.is (c.put_none.ensures no_name refl refl)

pub returns-in-NoText : goal.returns-in-NoText
unfolding refusal_number
returns-in-NoText c = puts-no-text c.in-NoText.is (c.put_none-in-NoText.ensures no_text refl refl)
