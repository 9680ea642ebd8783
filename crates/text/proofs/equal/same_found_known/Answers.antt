-- `text::equal::same_found_known` meets its contract: by the case of the second; no text equals none (`same_text-none`, `same_text-cut`).
use mathlib.Core.Path.{sym, ap, ◌∙◌}
use Rattle.text.specs.Inner.Found.{part_of}
use Rattle.text.specs.Content.{same_text}
use Rattle.text.proofs.Read.{part_of-cut, same_text-cut}
use Rattle.text.proofs.equal.same_found_known.Goals as goal

pub returns-in-Cut : goal.returns-in-Cut
returns-in-Cut c =
    let s = c in
    let a = s.args in
    c.same_part.ensures ∙ same_text-cut (part_of a.utf16 a.t.now a.area.now a.f) a.utf16 ∙ sym (ap
    (same_text (part_of a.utf16 a.t.now a.area.now a.f))
    (part_of-cut a.utf16 a.t.now a.area.now c.in-Cut.is))
