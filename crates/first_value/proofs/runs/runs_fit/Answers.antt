-- `first_value::runs::runs_fit` meets its contract: it stops at the first node whose attributes pass the count.
-- Invariant: the nodes from k on say what all of them say.
use native.Mathlib.Nat.{sub-zero}
use native.Mathlib.Omega.{arith}
use mathlib.Core.Path.{sym, ◌∙◌}
use Rattle.first_value.proofs.Laws.{runs_from-end, runs_from-unfit, runs_from-next}
use Rattle.first_value.proofs.runs.runs_fit.Goals as goal

pub loop-k-init : goal.loop-k-init
loop-k-init c = sym (rw sub-zero)

pub returns-then-passes : goal.returns-then-passes
returns-then-passes c =
    let a = c.args in
    let l = c.loop-k in
    sym
    (l.invariant ∙ runs_from-unfit a.attribute_count a.node_count a.nodes.now l.k (omega arith)
    c.node_place-at.ensures c.passes.ensures c.if-passes.true)

pub loop-k-preserved : goal.loop-k-preserved
loop-k-preserved c =
    let a = c.args in
    let l = c.loop-k in
    let e =
    runs_from-next a.attribute_count a.node_count a.nodes.now l.k (omega arith)
    c.node_place-at.ensures c.passes.ensures c.if-passes.false in
    l.invariant ∙ e

pub returns : goal.returns
returns c =
    let a = c.args in
    let l = c.loop-k in
    sym (l.invariant ∙ runs_from-end a.attribute_count a.node_count a.nodes.now l.k (omega arith))
