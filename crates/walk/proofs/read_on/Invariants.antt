-- `walk::read_on` meets its contract: each way out of its loop keeps the outcome of the whole reading.
-- Invariant: the outcome is that of the reading from here, and what is known of names and of long texts holds. Measure: the cursor's steps.
-- The mathematics of a turn: proofs/Advancing.antt, PastCap.antt, Finishing.antt, Knowing.antt.
use mathlib.Core.Path.{◌≡◌}
use lib.ListN.{length}
use Rattle.system_types.specs.Names.{lends}
use Rattle.head.specs.Head.{tables_in, body_in}
use Rattle.tables.specs.Inner.Numbered.{Numbered}
use Rattle.events.specs.Inner.Pending.{steps}
use Rattle.events.specs.Inner.Remembered.{Remembers}
use Rattle.walk.specs.Inner.Outcome.{StateOk}
use Rattle.walk.proofs.Advancing.{ReadHead}
use Rattle.walk.proofs.read_on.Given as goal

abbrev pub invariant-loop-x : goal.invariant-loop-x
invariant-loop-x l =
    let i = l.initial in
    let lent = lends l.names l.area in
    let h = l.st.opened.head in
    (length l.nodes ≡ length i.nodes) × (length l.attributes ≡ length i.attributes)
    × (length l.memory ≡ length i.memory) × (length l.numbers ≡ length i.numbers)
    × ((g : StateOk l.file lent i.nodes i.attributes l.st)
    → ReadHead l.file lent i.nodes i.attributes l.st g l.nodes l.attributes l.cur l.tree)
    × Remembers h (tables_in l.file h) lent l.memory × Numbered h (tables_in l.file h) lent l.numbers

abbrev pub decreases-loop-x : goal.decreases-loop-x
decreases-loop-x l = steps (body_in l.file l.st.opened.head) l.cur
