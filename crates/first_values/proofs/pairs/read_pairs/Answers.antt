-- `first_values::pairs::read_pairs` meets its contract: it stops at the first pair that does not lie inside.
-- Invariant: the pairs from k on say what all of them say.
use Prim.Native.Nat.{◌%◌}
use native.Mathlib.Nat.{sub-zero}
use native.Mathlib.Omega.{arith}
use mathlib.Core.Path.{refl, sym, ◌∙◌}
use lib.ListN.{length}
use Rattle.records.specs.Words.{pair_width}
use Rattle.first_values.proofs.Laws.{pairs_from-bad, pairs_from-next, pairs_from-left, pairs_from-whole, pairs_of-by}
use Rattle.first_values.proofs.pairs.read_pairs.Goals as goal

pub loop-k-init : goal.loop-k-init
loop-k-init c = (refl, sym (rw sub-zero))

pub is_pair_inside-requires : goal.is_pair_inside-requires
is_pair_inside-requires c = omega (arith, c.loop-k.invariant.0)

pub returns-then-not-is_pair_inside : goal.returns-then-not-is_pair_inside
returns-then-not-is_pair_inside c =
    let l = c.loop-k in
    let a = c.args in
    pairs_of-by a.pairs.now a.area.now l.invariant.0
    (l.invariant.1 ∙ pairs_from-bad a.area.now (length a.pairs.now % pair_width) _ a.pairs.now l.k (omega arith)
    c.is_pair_inside.ensures (c.if-not-is_pair_inside.true))

pub loop-k-preserved : goal.loop-k-preserved
loop-k-preserved c =
    let l = c.loop-k in
    let a = c.args in
    let e =
    pairs_from-next a.area.now (length a.pairs.now % pair_width) _ a.pairs.now l.k (omega arith)
    c.is_pair_inside.ensures (c.if-not-is_pair_inside.false) in
    (l.invariant.0, l.invariant.1 ∙ e)

pub returns-then-pairs-ne0 : goal.returns-then-pairs-ne0
returns-then-pairs-ne0 c =
    let l = c.loop-k in
    let a = c.args in
    pairs_of-by a.pairs.now a.area.now l.invariant.0
    (l.invariant.1 ∙ pairs_from-left a.area.now (length a.pairs.now % pair_width) _ a.pairs.now l.k (omega arith) (omega arith)
    c.if-pairs-ne0.true)

pub returns : goal.returns
returns c =
    let l = c.loop-k in
    let a = c.args in
    pairs_of-by a.pairs.now a.area.now l.invariant.0
    (l.invariant.1 ∙ pairs_from-whole a.area.now (length a.pairs.now % pair_width) _ a.pairs.now l.k (omega arith) (omega arith)
    c.if-pairs-ne0.false)
