-- `first_values::pairs::is_pair_inside` meets its contract: the tag first, and then the name.
use Rattle.first_values.proofs.Laws.{words-outside, words_inside}
use Rattle.first_values.proofs.pairs.is_pair_inside.Goals as goal

pub returns-then-not-is_inside : goal.returns-then-not-is_inside
returns-then-not-is_inside c =
    let a = c.args in
    words-outside a.area.now a.pairs.now a.k c.is_inside.ensures (c.if-not-is_inside.true)

pub returns : goal.returns
returns c =
    let a = c.args in
    let tag = c.is_inside in
    let test = c.if-not-is_inside in
    words_inside a.area.now a.pairs.now a.k tag.ensures (test.false) c.is_inside-2.ensures
