-- `first_value::find_node` meets its contract: it stops at the first node with the tag.
-- Invariant: none before k has it, and what is kept are other names.
use native.Mathlib.Nat.{sub-zero}
use native.Mathlib.Omega.{arith}
use mathlib.Core.Path.{refl, sym, ◌∙◌}
use Rattle.system_types.specs.Names.{lends}
use Rattle.first_value.proofs.Search.{find_node-end, find_node-found, find_node-next}
use Rattle.first_value.proofs.Remembered.{others-none}
use Rattle.first_value.proofs.find_node.Goals as goal

pub loop-k-init : goal.loop-k-init
loop-k-init c =
    let a = c.args in
    (sym (rw sub-zero), others-none a.h a.t.now (lends a.names.now a.area.now) a.tag.now 64, refl)

pub is_tagged_once-requires : goal.is_tagged_once-requires
is_tagged_once-requires c =
    let l = c.loop-k in
    (c.requires.0, l.invariant.2, l.invariant.1)

pub returns-then-is_tagged_once : goal.returns-then-is_tagged_once
returns-then-is_tagged_once c =
    let l = c.loop-k in
    let a = c.args in
    let place = c.node_place-at in
    let told = c.is_tagged_once in
    sym (l.invariant.0 ∙ find_node-found a.h a.t.now (lends a.names.now a.area.now) a.tag.now a.count a.nodes.now l.k
    (omega arith) place.ensures told.ensures.same c.if-is_tagged_once.true)

pub loop-k-preserved : goal.loop-k-preserved
loop-k-preserved c =
    let l = c.loop-k in
    let a = c.args in
    let place = c.node_place-at in
    let told = c.is_tagged_once in
    let e = find_node-next a.h a.t.now (lends a.names.now a.area.now) a.tag.now a.count a.nodes.now l.k (omega arith)
    place.ensures told.ensures.same c.if-is_tagged_once.false in
    (l.invariant.0 ∙ e, told.ensures.others, told.auto.others ∙ l.invariant.2)

pub returns : goal.returns
returns c =
    let l = c.loop-k in
    let a = c.args in
    sym (l.invariant.0 ∙ find_node-end a.h a.t.now (lends a.names.now a.area.now) a.tag.now a.count a.nodes.now l.k (omega arith))
