-- `first_values::answer_pairs` meets its contract: a place too few is 21 (`gives-full`), else all are answered (`gives-answers`).
use native.Mathlib.Omega.{arith}
use lib.ListN.{length}
use Rattle.system_types.specs.Names.{lends}
use Rattle.first_values.specs.Inner.Known.{asks_in}
use Rattle.first_values.proofs.Laws.{answers_from-length, gives-full, gives-answers}
use Rattle.first_values.proofs.answer_pairs.Goals as goal

pub returns-then-places-n : goal.returns-then-places-n
returns-then-places-n c =
    let a = c.args in
    gives-full (length a.answers.now) a.n _ _ c.if-places-n.true (c.refuse.ensures _)

pub answer_each-requires : goal.answer_each-requires
answer_each-requires c =
    let s = c in
    (s.requires.0, s.requires.1, s.requires.2, omega (arith, c.if-places-n.false))

pub returns : goal.returns
returns c =
    let a = c.args in
    let ask = asks_in a.h a.t.now (lends a.names.now a.area.now) a.nodes.now a.node_count a.attributes.now in
    let test = c.if-places-n in
    let each = c.answer_each in
    let long = answers_from-length ask a.pair_area.now a.n a.pairs.now in
    gives-answers _ a.answers.now _ _ a.n long test.false each.ensures c.zero_from.ensures
