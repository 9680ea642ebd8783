-- `first_values::answers_in` meets its contract: by what the pairs are (`gives_whole`, `gives-bad`).
use native.Mathlib.Omega.{arith}
use mathlib.Core.Path.{sym, ◌∙◌}
use lib.ListN.{length}
use Rattle.system_types.specs.Names.{lends}
use Rattle.first_values.specs.Inner.Known.{asks_in}
use Rattle.first_values.proofs.Laws.{pairs_of-count, gives_whole, gives-bad}
use Rattle.first_values.proofs.answers_in.Goals as goal

pub answer_pairs-requires : goal.answer_pairs-requires
answer_pairs-requires c =
    let s = c in
    let a = s.args in
    let e = sym c.read_pairs-read.ensures ∙ c.in-Ok.is in
    let n = pairs_of-count a.pairs.now a.pair_area.now e in
    (s.requires.0, s.requires.1, omega (arith, n))

pub returns-in-Ok : goal.returns-in-Ok
returns-in-Ok c =
    let a = c.args in
    let ask = asks_in a.h a.t.now (lends a.names.now a.area.now) a.nodes.now a.node_count a.attributes.now in
    let read = c.read_pairs-read in
    gives_whole ask a.pairs.now a.pair_area.now (length a.answers.now) _ read.ensures c.in-Ok.is c.answer_pairs.ensures

pub returns-in-Err : goal.returns-in-Err
returns-in-Err c =
    let a = c.args in
    let read = c.read_pairs-read in
    gives-bad a.pairs.now a.pair_area.now _ (length a.answers.now) _ read.ensures c.in-Err.is (c.refuse.ensures _)
