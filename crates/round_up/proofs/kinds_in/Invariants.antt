-- `round_up::kinds_in` meets its contract. Invariant: the counts are those of the first i notes.
use Rattle.round_up.specs.Kinds.{kinds_from, tally}
use mathlib.Core.Path.{◌≡◌}
use Rattle.round_up.specs.RoundUp.{kinds}
use Rattle.round_up.proofs.kinds_in.Given as goal

abbrev pub invariant-loop-i : goal.invariant-loop-i
invariant-loop-i l = l.counts ≡ tally kinds 0 (kinds_from l.i l.words)
