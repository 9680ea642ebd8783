-- `first_values::answer_each` meets its contract: the answers to the pairs in turn.
-- Invariant: the answers to the first k pairs stand in front, and the node is that of the pair before k.
use native.Mathlib.Omega.{arith}
use mathlib.Core.Path.{refl}
use Rattle.system_types.specs.Names.{lends}
use Rattle.first_value.proofs.Laws.{fit_of-fits}
use Rattle.first_value.proofs.Search.{run_fits}
use Rattle.first_values.specs.Pairs.{tag_at, answers_from}
use Rattle.first_values.specs.Inner.Known.{finds_in, asks_in}
use Rattle.first_values.proofs.Laws.{answers-long, answers-put, answers-all, answer-words, node-none, node-next}
use Rattle.first_values.proofs.answer_each.Goals as goal

pub loop-k-init : goal.loop-k-init
unfolding answers_from
loop-k-init c =
    let a = c.args in
    let find = finds_in a.h a.t.now (lends a.names.now a.area.now) a.nodes.now a.node_count in
    (refl, node-none find a.pairs.now a.pair_area.now _)

pub node_for-node-requires : goal.node_for-node-requires
node_for-node-requires c =
    let s = c in
    let a = s.args in
    let fits = fit_of-fits a.nodes.now a.attributes.now a.node_count a.attribute_count s.requires.1 in
    (s.requires.0, fits.nodes, omega (arith, s.requires.2), c.loop-k.invariant.1)

pub name_at-requires : goal.name_at-requires
name_at-requires c = omega (arith, c.requires.2)

pub value_of-value-requires : goal.value_of-value-requires
value_of-value-requires c =
    let s = c in
    let a = s.args in
    let tag = tag_at a.pairs.now a.pair_area.now c.loop-k.k in
    let run =
    run_fits a.h a.t.now (lends a.names.now a.area.now) tag a.nodes.now a.attributes.now a.node_count a.attribute_count
    s.requires.1 c.node_for-node.ensures in
    (s.requires.0, run)

pub put_answer-requires : goal.put_answer-requires
put_answer-requires c =
    let s = c in
    let a = s.args in
    let l = c.loop-k in
    let ask = asks_in a.h a.t.now (lends a.names.now a.area.now) a.nodes.now a.node_count a.attributes.now in
    let e = answers-long ask a.pair_area.now a.pairs.now a.answers.now l.answers l.k (omega (arith, s.requires.3)) l.invariant.0 in
    omega (arith, e, s.requires.3)

pub loop-k-preserved : goal.loop-k-preserved
loop-k-preserved c =
    let a = c.args in
    let l = c.loop-k in
    let ask = asks_in a.h a.t.now (lends a.names.now a.area.now) a.nodes.now a.node_count a.attributes.now in
    let find = finds_in a.h a.t.now (lends a.names.now a.area.now) a.nodes.now a.node_count in
    let node = c.node_for-node.ensures in
    let name = c.name_at.ensures in
    let value = c.value_of-value.ensures in
    let numbers = c.first_numbers.ensures in
    let ws =
    answer-words a.h a.t.now (lends a.names.now a.area.now) a.nodes.now a.node_count a.attributes.now a.pairs.now
    a.pair_area.now l.k node name value numbers in
    let put = answers-put ask a.pair_area.now a.pairs.now a.answers.now l.answers _ l.k l.invariant.0 c.put_answer.ensures ws in
    let next = node-next find a.pairs.now a.pair_area.now l.k _ node in
    (put, next)

pub shape_of-answers : goal.shape_of-answers
shape_of-answers c =
    let s = c in
    let a = s.args in
    let l = c.loop-k in
    let ask = asks_in a.h a.t.now (lends a.names.now a.area.now) a.nodes.now a.node_count a.attributes.now in
    answers-long ask a.pair_area.now a.pairs.now a.answers.now l.answers l.k (omega (arith, s.requires.3)) l.invariant.0

pub returns : goal.returns
returns c =
    let a = c.args in
    let l = c.loop-k in
    let ask = asks_in a.h a.t.now (lends a.names.now a.area.now) a.nodes.now a.node_count a.attributes.now in
    answers-all ask a.pair_area.now a.pairs.now a.answers.now l.answers l.invariant.0 (omega arith)
