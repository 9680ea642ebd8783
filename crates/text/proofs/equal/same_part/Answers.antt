-- `text::equal::same_part` meets its contract: by the case of what was found; a string that is cut has the text of no bytes (`is_text-cut`).
use mathlib.Core.Path.{sym, ap, ◌∙◌}
use Rattle.utf.specs.Text.{text_of}
use Rattle.text.specs.Content.{Content, is_text}
use Rattle.text.proofs.Read.{part_of-cut, is_text-cut}
use Rattle.text.proofs.equal.same_part.Goals as goal

pub returns-in-Cut : goal.returns-in-Cut
returns-in-Cut c =
    let s = c in
    let a = s.args in
    c.same_known.ensures ∙ is_text-cut a.utf16 (text_of a.utf16_s a.s.now) ∙ sym (ap
    (λ (p : Content). is_text p (text_of a.utf16_s a.s.now))
    (part_of-cut a.utf16 a.t.now a.area.now c.in-Cut.is))
