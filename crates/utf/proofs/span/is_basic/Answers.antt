-- `utf::span::is_basic` meets its contract (Invariants.antt).
use mathlib.Core.Path.{sym, ◌∙◌}
use native.Mathlib.Omega.{arith}
use Rattle.utf.proofs.Blocks.{seen_basic-next, seen_basic-end}
use Rattle.utf.proofs.span.is_basic.Goals as goal

pub loop-i-preserved : goal.loop-i-preserved
loop-i-preserved c =
    let l = c.loop-i in
    rw c.max-most.ensures (seen_basic-next c.args.s.now l.i l.most _ (omega arith) c.surrogate_mark.ensures ∙ l.invariant)

pub returns : goal.returns
returns c =
    let l = c.loop-i in
    sym (seen_basic-end c.args.s.now l.i l.most (omega arith)) ∙ l.invariant
