-- `relist::notes_of` meets its contract. Invariant: the first i notes stand in the array.
use mathlib.Core.Path.{◌≡◌}
use lib.ListN.{replicate}
use Rattle.records.specs.Limits.{listed_notes}
use Rattle.relist.proofs.Judging.{notes_over}
use Rattle.relist.proofs.notes_of.Given as goal

abbrev pub invariant-loop-i : goal.invariant-loop-i
invariant-loop-i l = l.notes ≡ notes_over l.i l.words (replicate listed_notes (record { kind = 0; a = 0; b = 0 }))
