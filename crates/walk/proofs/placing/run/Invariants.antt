-- `walk::placing::run` meets its contract: each turn of its loop is one step of the reading, put away.
-- Invariant: the reading from here comes to what it came to at first, and what is known of names and of long texts holds. Measure: the cursor's steps.
-- The mathematics of a turn: proofs/Running.antt.
use mathlib.Core.Path.{◌≡◌}
use lib.ListN.{length}
use Rattle.system_types.specs.Names.{lends}
use Rattle.tables.specs.Inner.Numbered.{Numbered}
use Rattle.events.specs.Inner.Pending.{steps}
use Rattle.events.specs.Inner.Remembered.{Remembers}
use Rattle.walk.specs.Inner.Run.{Running}
use Rattle.walk.proofs.Running.{RunHead}
use Rattle.walk.proofs.placing.run.Given as goal

abbrev pub invariant-loop-u : goal.invariant-loop-u
invariant-loop-u l =
    let i = l.initial in
    let lent = lends l.names l.area in
    (length l.nodes ≡ length i.nodes) × (length l.attributes ≡ length i.attributes)
    × ((g : Running l.t lent l.b l.o i.nodes i.attributes i.cur i.grown)
    → RunHead l.mode l.t lent l.b l.o i.nodes i.attributes i.cur i.grown g l.nodes l.attributes l.cur l.grown)
    × Remembers l.o.head l.t lent l.memory × Numbered l.o.head l.t lent l.numbers

abbrev pub decreases-loop-u : goal.decreases-loop-u
decreases-loop-u l = steps l.b l.cur
