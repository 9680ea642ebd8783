-- `utf::span::is_ascii` meets its contract (Invariants.antt).
use mathlib.Core.Path.{sym, ◌∙◌}
use native.Mathlib.Omega.{arith}
use Rattle.utf.proofs.Ascii.{seen_ascii-next, seen_ascii-end}
use Rattle.utf.proofs.span.is_ascii.Goals as goal

pub loop-b-preserved : goal.loop-b-preserved
loop-b-preserved c =
    let l = c.loop-b in
    rw c.max-most.ensures (seen_ascii-next c.args.s.now l.b-index l.most (omega arith) ∙ l.invariant)

pub returns : goal.returns
returns c =
    let l = c.loop-b in
    sym (seen_ascii-end c.args.s.now l.b-index l.most (omega arith)) ∙ l.invariant
