-- `axml::read`: what holds at the head of its loop is `Point`, and each turn leaves fewer steps.
use Rattle.system_types.specs.Names.{lends}
use Rattle.walk.specs.Inner.Outcome.{steps_left}
use Rattle.axml.proofs.LoopInvariant.{Point}
use Rattle.axml.proofs.read.Given as goal

abbrev pub invariant-loop-st : goal.invariant-loop-st
invariant-loop-st l =
    Point l.file (lends l.names l.area) l.fn.nodes l.fn.attributes l.fn.notes l.cap l.mode l.st l.nodes l.attributes l.notes

abbrev pub decreases-loop-st : goal.decreases-loop-st
decreases-loop-st l = steps_left l.file (lends l.names l.area) l.st
