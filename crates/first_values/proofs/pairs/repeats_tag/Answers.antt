-- `first_values::pairs::repeats_tag` meets its contract: yes alone for a tag with the bytes of the one before it.
use Prim.Native.Nat.{◌≤◌}
use mathlib.Core.Path.{sym}
use mathlib.Core.Bool.{true≢false}
use Rattle.first_values.proofs.Laws.{repeats-before}
use borrow.Author.Rules.{rules}
use Rattle.first_values.proofs.pairs.repeats_tag.Goals as goal

pub returns-then-k-eq0 : goal.returns-then-k-eq0
returns-then-k-eq0 c = λ e. absurd (true≢false (sym e))

pub returns : goal.returns
returns c =
    let a = c.args in
    let p : 1 ≤ a.k = search rules in
    λ e. repeats-before a.pairs.now a.area.now a.k p c.tag_at.ensures c.tag_at-2.ensures c.same_bytes.ensures e
