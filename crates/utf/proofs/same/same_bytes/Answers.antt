-- `utf::same::same_bytes` meets its contract: by the lengths, by the last bytes, and then by the others.
use mathlib.Core.Path.{sym, ◌∙◌}
use native.Mathlib.Omega.{arith}
use Rattle.utf.proofs.Equal.{eq_bytes-pointwise, eq_bytes-length, lasts-differ, lasts-same}
use Rattle.utf.proofs.same.same_bytes.Goals as goal

pub returns-then-a-b : goal.returns-then-a-b
returns-then-a-b c = sym (eq_bytes-length c.args.a.now c.args.b.now c.if-a-b.true)

pub returns-then-eq : goal.returns-then-eq
returns-then-eq c =
    c.eq-then-eq.ensures ∙ eq_bytes-pointwise _ _
    ∙ lasts-same c.args.a.now c.args.b.now _ _ _ _ c.last_chunk.ensures.cases c.last_chunk-then-a-ge64.ensures.cases
    (sym c.eq.ensures ∙ c.if-eq.true) (omega (arith, c.if-a-ge64.true)) c.if-a-b.false (omega (arith, c.if-a-ge64.true))

pub returns-else-eq : goal.returns-else-eq
returns-else-eq c =
    c.if-eq.false
    ∙ sym (lasts-differ c.args.a.now c.args.b.now _ _ _ c.last_chunk.ensures.cases c.last_chunk-then-a-ge64.ensures.cases
    (sym c.eq.ensures ∙ c.if-eq.false))

pub returns-then-eq-2 : goal.returns-then-eq-2
returns-then-eq-2 c = c.eq-then-eq-2.ensures ∙ eq_bytes-pointwise c.args.a.now c.args.b.now

pub returns-else-eq-2 : goal.returns-else-eq-2
returns-else-eq-2 c =
    c.if-eq-2.false
    ∙ sym (lasts-differ c.args.a.now c.args.b.now _ _ _ c.last_chunk-2.ensures.cases c.last_chunk-3.ensures.cases
    (sym c.eq-2.ensures ∙ c.if-eq-2.false))
