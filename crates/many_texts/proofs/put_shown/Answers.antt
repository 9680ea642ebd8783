-- `many_texts::put_shown` meets its contract: where the place behind the text is a word (`puts-shown`), and where it is not (`puts-past`).
use Prim.Native.Nat.{◌+◌}
use mathlib.Core.Path.{refl, sym, ◌∙◌}
use native.Mathlib.Omega.{arith}
use borrow.Author.Tests.{leb-true, leb-false}
use Rattle.many_texts.specs.Many.{most_bytes}
use Rattle.many_texts.proofs.Going.{puts-shown, puts-past}
use Rattle.many_texts.proofs.put_shown.Goals as goal

pub overflow_cast-at : goal.overflow_cast-at
overflow_cast-at c =
    let a = c.args in omega (arith, leb-true (a.at + a.n) most_bytes (sym c.is_word.ensures ∙ c.if-is_word.true))

pub overflow_cast-n : goal.overflow_cast-n
overflow_cast-n c =
    let a = c.args in omega (arith, leb-true (a.at + a.n) most_bytes (sym c.is_word.ensures ∙ c.if-is_word.true))

pub returns-then-is_word : goal.returns-then-is_word
returns-then-is_word c =
    let s = c in
    let a = s.args in
    λ l e.
    puts-shown a.k a.at a.n _ l a.answers.now _ s.requires refl e c.saturating_add-next.ensures
    c.state_number.ensures c.replaced_number.ensures c.put_answer.ensures

pub returns-else-is_word : goal.returns-else-is_word
returns-else-is_word c =
    let a = c.args in
    let past = leb-false (a.at + a.n) most_bytes (sym c.is_word.ensures ∙ c.if-is_word.false) in
    λ s e. puts-past a.k a.at a.n _ s a.answers.now past e c.saturating_add-next.ensures
