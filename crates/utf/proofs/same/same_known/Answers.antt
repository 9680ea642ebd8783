-- `utf::same::same_known` meets its contract: a plain text is told by its bytes (`plain-same`).
use mathlib.Core.Path.{◌≡◌, ap, sym, ◌∙◌}
use mathlib.Core.Bool.{Bool}
use Prim.Native.Nat.{ℕ, ◌<◌}
use lib.ListN.{get_or}
use Rattle.utf.specs.Text.{text_of, eq_bytes}
use Rattle.utf.proofs.PlainLaws.{plain-same, beq-true}
use Rattle.utf.proofs.same.same_known.Goals as goal

pub returns-then-utf16_a-utf16_b : goal.returns-then-utf16_a-utf16_b
returns-then-utf16_a-utf16_b c =
    let s = c in
    let a = s.args in
    let in-a : (i : ℕ) → get_or a.a.now i 0 < 256 = λ i. (c.type_inv.a i).fits in
    let in_b : (i : ℕ) → get_or a.b.now i 0 < 256 = λ i. (c.type_inv.b i).fits in
    let same : a.utf16_a ≡ a.utf16_b = beq-true a.utf16_a a.utf16_b c.if-utf16_a-utf16_b.true in
    c.same_bytes.ensures ∙ plain-same a.utf16_b a.a.now a.b.now in-a in_b (s.requires.holds c.if-plain.true)
    ∙ ap (λ (w : Bool). eq_bytes (text_of w a.a.now) (text_of a.utf16_b a.b.now)) (sym same)
