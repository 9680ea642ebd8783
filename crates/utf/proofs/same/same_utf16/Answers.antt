-- `utf::same::same_utf16` meets its contract: the same bytes are the same text, and others only where both are empty (`differ-utf16`).
use mathlib.Core.Path.{◌≡◌, sym, ap, ◌∙◌}
use mathlib.Core.List.{List, []}
use mathlib.Core.Bool.{true}
use Prim.Native.Nat.{ℕ, ◌<◌}
use lib.ListN.{get_or}
use Rattle.utf.specs.Text.{text_of, eq_bytes}
use Rattle.utf.proofs.Equal.{eq_bytes-true}
use Rattle.utf.proofs.Units.{same_bytes, differ-utf16}
use Rattle.utf.proofs.same.same_utf16.Goals as goal

pub returns-then-same_bytes : goal.returns-then-same_bytes
returns-then-same_bytes c =
    let a = c.args in
    c.if-same_bytes.true
    ∙ sym (same_bytes true a.a.now a.b.now (sym c.same_bytes.ensures ∙ c.if-same_bytes.true))

pub returns-then-is_blank : goal.returns-then-is_blank
returns-then-is_blank c =
    let a = c.args in
    let said = sym c.is_blank.ensures ∙ c.if-is_blank.true in
    let blank : [] ≡ text_of true a.a.now = eq_bytes-true [] (text_of true a.a.now) said in
    c.is_blank-then-is_blank.ensures ∙ ap (λ (l : List ℕ). eq_bytes l (text_of true a.b.now)) blank

pub returns-else-is_blank : goal.returns-else-is_blank
returns-else-is_blank c =
    let q = c in
    let a = q.args in
    let in-a : (i : ℕ) → get_or a.a.now i 0 < 256 = λ i. (c.type_inv.a i).fits in
    let in_b : (i : ℕ) → get_or a.b.now i 0 < 256 = λ i. (c.type_inv.b i).fits in
    c.if-is_blank.false
    ∙ sym (differ-utf16 a.a.now a.b.now in-a in_b (sym q.same_bytes.ensures ∙ c.if-same_bytes.false)
    (sym c.is_blank.ensures ∙ c.if-is_blank.false))
