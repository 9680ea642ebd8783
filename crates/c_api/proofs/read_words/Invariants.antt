-- `c_api::read_words` meets its contract: the loop of `axml::read` over words.
-- Invariant: the outcome from here, with the words' notes, is the promise. Measure: what `advance` lowers. The mathematics: proofs/LoopInvariant.antt.
use Rattle.system_types.specs.Names.{lends}
use Rattle.walk.specs.Inner.KnownSoFar.{KnownSoFar}
use Rattle.walk.specs.Inner.Outcome.{steps_left}
use Rattle.c_api.proofs.LoopInvariant.{Point}
use Rattle.c_api.proofs.read_words.Given as goal

abbrev pub invariant-loop-st : goal.invariant-loop-st
invariant-loop-st l = Point l.file (lends l.names l.area) l.fn.nodes l.fn.attributes l.fn.notes l.cap l.mode l.nodes l.attributes l.notes l.st × KnownSoFar l.file (lends l.names l.area) l.st l.memory l.numbers

abbrev pub decreases-loop-st : goal.decreases-loop-st
decreases-loop-st l = steps_left l.file (lends l.names l.area) l.st
