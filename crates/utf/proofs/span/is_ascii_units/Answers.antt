-- `utf::span::is_ascii_units` meets its contract (Invariants.antt).
use Rattle.utf.proofs.AsciiText.{units-turn}
use Rattle.utf.proofs.span.is_ascii_units.Goals as goal

pub loop-unit-preserved : goal.loop-unit-preserved
loop-unit-preserved c =
    let step = c.in-Some.ensures.steps in
    rw (c.max-high.ensures, c.max-low.ensures) (units-turn _ _ _ _ c.in-Some.unit.now _ _ _ c.loop-unit.invariant step.0 step.1.0 step.1.1)
