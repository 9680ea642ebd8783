-- `utf::span::is_basic` meets its contract. Invariant: the greatest mark so far and the bytes left say what all the bytes say
-- (proofs/Blocks.antt).
use mathlib.Core.Path.{◌≡◌}
use Rattle.utf.specs.Inner.StepRuns.{is_basic}
use Rattle.utf.proofs.Blocks.{seen_basic}
use Rattle.utf.proofs.span.is_basic.Given as goal

abbrev pub invariant-loop-i : goal.invariant-loop-i
invariant-loop-i l = seen_basic l.most l.i l.s ≡ is_basic l.s
