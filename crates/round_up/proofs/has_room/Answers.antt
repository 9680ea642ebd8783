-- `round_up::has_room` meets its contract. Invariant: whether all have room is whether those from i on have.
use mathlib.Core.Path.{sym, ◌∙◌}
use native.Mathlib.Omega.{arith}
use Rattle.round_up.proofs.Laws.{has_room-past, has_room-next, has_room-end}
use Rattle.round_up.proofs.has_room.Goals as goal

pub returns-then-more-counts : goal.returns-then-more-counts
returns-then-more-counts c =
    let l = c.loop-i in
    let a = c.args in
    sym (has_room-past a.counts.now a.share.now l.i (omega arith) (omega arith) (omega arith)) ∙ l.invariant

pub loop-i-preserved : goal.loop-i-preserved
loop-i-preserved c =
    let l = c.loop-i in
    let a = c.args in
    sym (has_room-next a.counts.now a.share.now l.i (omega arith) (omega arith) (omega arith) (omega arith)) ∙ l.invariant

pub returns : goal.returns
returns c =
    let l = c.loop-i in
    let a = c.args in
    sym (has_room-end a.counts.now a.share.now l.i (omega arith)) ∙ l.invariant
