-- `round_up::has_room` meets its contract. Invariant: whether all have room is whether those from i on have.
use mathlib.Core.Path.{◌≡◌}
use lib.ListN.{drop}
use Rattle.round_up.specs.RoundUp.{has_room}
use Rattle.round_up.proofs.has_room.Given as goal

abbrev pub invariant-loop-i : goal.invariant-loop-i
invariant-loop-i l = has_room (drop l.i l.counts) (drop l.i l.share) ≡ has_room l.counts l.share
