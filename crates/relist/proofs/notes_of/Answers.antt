-- `relist::notes_of` meets its contract. Invariant: the first i notes stand in the array.
use Rattle.relist.proofs.Judging.{notes-start, notes-turn, notes-end}
use Rattle.relist.proofs.notes_of.Goals as goal

pub loop-i-init : goal.loop-i-init
loop-i-init c = notes-start _ _

pub loop-i-preserved : goal.loop-i-preserved
loop-i-preserved c = notes-turn _ _ _ _ c.loop-i.invariant c.note_at.ensures

pub returns : goal.returns
returns c = notes-end _ _ _ c.loop-i.invariant c.loop-i.auto.i-end c.loop-i-test.false
