-- `first_value::find_value` meets its contract: it stops at the first attribute with the name.
-- Invariant: none before k has it.
use Prim.Native.Nat.{◌-◌, ◌*◌}
use mathlib.Core.Path.{◌≡◌}
use lib.ListN.{drop}
use Rattle.records.specs.Words.{attribute_width}
use Rattle.system_types.specs.Names.{lends}
use Rattle.first_value.specs.Question.{find_value}
use Rattle.first_value.proofs.find_value.Given as goal

abbrev pub invariant-loop-k : goal.invariant-loop-k
invariant-loop-k l = find_value l.h l.t (lends l.names l.area) l.name l.count l.attributes ≡ find_value l.h l.t (lends l.names l.area) l.name (l.count - l.k) (drop (attribute_width * l.k) l.attributes)
