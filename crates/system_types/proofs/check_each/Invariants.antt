-- `system_types::check_each` meets its contract. Invariant: what the entries left say is what all of them say.
use Rattle.std.proofs.Common.{◌≡◌, ◌*◌, drop}
use Rattle.system_types.specs.Names.{names_from}
use Rattle.system_types.proofs.check_each.Given as goal

abbrev pub invariant-loop-k : goal.invariant-loop-k
invariant-loop-k l = names_from l.area l.last l.k (drop (3 * l.k) l.names) ≡ names_from l.area 0 0 l.names
