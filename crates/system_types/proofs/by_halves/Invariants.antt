-- `system_types::by_halves` meets its contract. Invariant: the entries before `low` are below the id and those from `high` on
-- above it (proofs/Search.antt, `Between`). Measure: the entries between.
use Rattle.std.proofs.Common.{◌-◌}
use Rattle.system_types.proofs.Search.{Between}
use Rattle.system_types.proofs.by_halves.Given as goal

abbrev pub invariant-loop-low : goal.invariant-loop-low
invariant-loop-low l = Between l.names l.wanted.0 l.low l.high

abbrev pub decreases-loop-low : goal.decreases-loop-low
decreases-loop-low l = l.high - l.low
