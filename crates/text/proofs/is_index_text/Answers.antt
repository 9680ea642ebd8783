-- `text::is_index_text` meets its contract: lent bytes that are UTF-8 are their own text (`is_text-sound`), others are no text's (`is_text-unsound`).
use mathlib.Core.Path.{sym, ap, ◌∙◌}
use Rattle.text.specs.Inner.Found.{part_of}
use Rattle.text.specs.Content.{Content, is_text}
use Rattle.text.proofs.Read.{is_text-sound, is_text-unsound}
use Rattle.text.proofs.is_index_text.Goals as goal

pub returns-then-not-is_sound : goal.returns-then-not-is_sound
returns-then-not-is_sound c =
    let s = c in
    let p6 = c in
    let a = s.args in
    let e = sym c.is_sound.ensures ∙ c.if-not-is_sound.true in
    sym (is_text-unsound a.h.utf16 a.t.now a.area.now c.find-f.result a.bytes.now
    (λ i. (p6.shared_slice_known-1.given i).fits) (λ i. (c.shared_slice_known-3-1.given i).fits) e) ∙ ap
    (λ (p : Content). is_text p a.bytes.now) c.find-f.ensures.same

pub returns : goal.returns
returns c =
    let s = c in
    let a = s.args in
    let e = sym c.is_sound.ensures ∙ c.if-not-is_sound.false in
    let f = c.find-f.result in
    c.same_part.ensures ∙ is_text-sound (part_of a.h.utf16 a.t.now a.area.now f) a.bytes.now e ∙ ap
    (λ (p : Content). is_text p a.bytes.now) c.find-f.ensures.same
