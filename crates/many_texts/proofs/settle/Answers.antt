-- `many_texts::settle` meets its contract: texts without room (`gives-short`), and texts that fit (`gives_all`).
use native.Mathlib.Omega.{arith}
use Rattle.many_texts.proofs.Going.{gives-refused, gives-short, gives_all}
use Rattle.many_texts.proofs.settle.Goals as goal

pub returns-then-min-at : goal.returns-then-min-at
returns-then-min-at c =
    let w = c.min.ensures in
    let taken = c.if-min-at.true in
    λ one d. gives-refused (gives-short d c.requires
    (omega arith) (omega arith)) c.refuse.ensures

pub returns : goal.returns
returns c =
    let w = c.min.ensures in
    let left = c.if-min-at.false in
    λ one d. gives_all d c.requires (omega arith)
    (omega arith) c.zero_behind.ensures c.zero_from.ensures
