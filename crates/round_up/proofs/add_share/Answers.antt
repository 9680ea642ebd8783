-- `round_up::add_share` meets its contract. Invariant: those before i are summed, and the others stand as they were.
use Rattle.round_up.proofs.Laws.{adding-next, adding-last, has_room-here}
use native.Mathlib.Omega.{arith}
use Rattle.round_up.proofs.add_share.Goals as goal

pub overflow_add-counts : goal.overflow_add-counts
overflow_add-counts c =
    let l = c.loop-i in
    let s = c.args.share.now in
    omega (arith, has_room-here l.counts s l.i (omega arith) (omega arith) l.invariant.room)

pub loop-i-preserved : goal.loop-i-preserved
loop-i-preserved c =
    let l = c.loop-i in
    let a = c.args in
    adding-next a.counts.now a.share.now l.counts l.i c.requires.0 (omega arith) l.invariant

pub returns : goal.returns
returns c =
    let l = c.loop-i in adding-last _ _ l.counts l.i (omega arith) l.invariant
