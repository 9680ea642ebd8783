-- `utf::ascii_text::ascii_into` meets its contract: a text of ASCII is its bytes, or the low bytes of its units.
use mathlib.Core.Path.{◌≡◌, sym, ap, ◌∙◌}
use mathlib.Core.Bool.{Bool, true, false}
use native.Mathlib.Omega.{arith}
use Rattle.utf.specs.Inner.StepRuns.{is_ascii_text}
use Rattle.utf.proofs.AsciiText.{into-utf16, into-utf8}
use Rattle.utf.proofs.ascii_text.ascii_into.Goals as goal

pub returns-then-utf16 : goal.returns-then-utf16
returns-then-utf16 c =
    let a = c.args in
    let is : is_ascii_text true a.s.now ≡ true = ap (λ (w : Bool). is_ascii_text w a.s.now)
    (sym c.if-utf16.true) ∙ c.requires in
    rw c.if-utf16.true (into-utf16 a.s.now a.out.now _ _ is (omega arith) c.lows_into.ensures)

pub returns : goal.returns
returns c =
    let a = c.args in
    let is : is_ascii_text false a.s.now ≡ true = ap (λ (w : Bool). is_ascii_text w a.s.now)
    (sym c.if-utf16.false) ∙ c.requires in
    rw c.if-utf16.false (into-utf8 a.s.now a.out.now _ _ is (omega arith) c.copy_into.ensures)
