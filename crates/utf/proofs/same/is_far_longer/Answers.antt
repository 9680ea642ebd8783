-- `utf::same::is_far_longer` meets its contract: it says yes only by the lengths, of which `text_of-far` tells.
use mathlib.Core.Path.{sym, ap, ◌∙◌}
use mathlib.Core.Bool.{not, true≢false}
use borrow.Author.Tests.{ltb-true, eqb-false, not-true}
use Rattle.utf.proofs.Lengths.{by_lengths}
use Rattle.utf.proofs.same.is_far_longer.Goals as goal
use Rattle.utf.proofs.same.is_far_longer.Goals.{then-not-utf16_b, else-not-utf16_b}

pub returns-then-not-is_empty : goal.returns-then-not-is_empty
returns-then-not-is_empty c =
    let a = c.args in
    λ e v. elim c.if-not-utf16_b.branch [
      | then-not-utf16_b w ↦
          by_lengths v a.utf16_b a.a.now a.b.now w.if-not-utf16_b.true
          (eqb-false _ _ (sym w.is_empty.ensures ∙ not-true _ (sym w.value-is ∙ c.if-not-is_empty.true)))
          (ltb-true _ _ e)
      | else-not-utf16_b w ↦ absurd (true≢false (sym c.if-not-is_empty.true ∙ w.value-is ∙ ap not w.if-not-utf16_b.false))
    ]
