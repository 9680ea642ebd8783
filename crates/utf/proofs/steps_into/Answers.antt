-- `utf::steps_into` meets its contract: nothing is written where the text is refused or does not fit, and otherwise its steps' bytes.
use mathlib.Core.Path.{refl, sym, ◌∙◌}
use native.Mathlib.Omega.{arith}
use Rattle.utf.proofs.Laws.{bytes_of-length-le}
use Rattle.utf.proofs.Turns.{text_of-refused, text_of-kept}
use Rattle.utf.proofs.Filled.{put_text-nil, put_text-fits, put_text-short}
use Rattle.utf.proofs.steps_into.Goals as goal

pub returns-then-is_refused : goal.returns-then-is_refused
returns-then-is_refused c = rw (text_of-refused _ _ (sym c.is_refused.ensures ∙ c.if-is_refused.true)) (refl, sym (put_text-nil _))

pub bytes_into-requires : goal.bytes_into-requires
bytes_into-requires c =
    let a = c.args in
    omega (arith, bytes_of-length-le a.utf16 a.s.now, c.if-s-out.true)

pub returns-then-s-out : goal.returns-then-s-out
returns-then-s-out c =
    let p4 = c in
    let told = p4 in
    let a = told.args in
    rw (text_of-kept _ _ (sym told.is_refused.ensures ∙ p4.if-is_refused.false))
    (put_text-fits _ a.out.now _ _ (omega (arith, bytes_of-length-le a.utf16 a.s.now, p4.if-s-out.true)) (omega arith)
    c.bytes_into.ensures)

pub returns-then-out-n : goal.returns-then-out-n
returns-then-out-n c =
    let kept = c in
    rw (text_of-kept _ _ (sym kept.is_refused.ensures ∙ kept.if-is_refused.false)) (put_text-short _ _ _ c.bytes_len-n.ensures c.if-out-n.true)

pub returns : goal.returns
returns c =
    let p4 = c in
    let kept = p4 in
    let a = kept.args in
    rw (text_of-kept _ _ (sym kept.is_refused.ensures ∙ kept.if-is_refused.false))
    (put_text-fits _ a.out.now _ _ (omega (arith, p4.bytes_len-n.ensures)) (omega arith)
    c.bytes_into-2.ensures)
