-- `many_texts::put_texts` meets its contract. Invariant: the first k texts and answers (`Done`).
use native.Mathlib.Omega.{arith}
use Rattle.system_types.specs.Names.{lends}
use Rattle.many_texts.specs.Inner.Going.{index_value}
use Rattle.many_texts.proofs.Going.{done_first, done-step, done_all}
use Rattle.many_texts.proofs.put_texts.Goals as goal

pub loop-k-init : goal.loop-k-init
loop-k-init c =
    let a = c.args in
    done_first (index_value a.h a.t.now (lends a.names.now a.area.now) a.indices.now) a.out.now a.answers.now

pub index_at-told-requires : goal.index_at-told-requires
index_at-told-requires c = c.requires.0

pub put_told-at-requires : goal.put_told-at-requires
put_told-at-requires c = omega (arith, c.loop-k.invariant.utf16)

pub loop-k-preserved : goal.loop-k-preserved
loop-k-preserved c =
    done-step (omega arith) c.loop-k.invariant c.index_at-told.ensures (c.put_told-at.ensures _ c.index_at-told.ensures.told)

pub returns : goal.returns
returns c = done_all (omega arith) c.loop-k.invariant
