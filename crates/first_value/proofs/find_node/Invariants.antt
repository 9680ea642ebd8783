-- `first_value::find_node` meets its contract: it stops at the first node with the tag.
-- Invariant: none before k has it, and what is kept are other names.
use Prim.Native.Nat.{◌-◌, ◌*◌}
use mathlib.Core.Path.{◌≡◌}
use lib.ListN.{length, drop}
use Rattle.records.specs.Words.{node_width}
use Rattle.system_types.specs.Names.{lends}
use Rattle.first_value.specs.Question.{find_node}
use Rattle.first_value.specs.Inner.Others.{Others}
use Rattle.first_value.proofs.find_node.Given as goal

abbrev pub invariant-loop-k : goal.invariant-loop-k
invariant-loop-k l = (find_node l.h l.t (lends l.names l.area) l.tag l.count l.nodes ≡ find_node l.h l.t (lends l.names l.area) l.tag (l.count - l.k) (drop (node_width * l.k) l.nodes))
    × Others l.h l.t (lends l.names l.area) l.tag l.others × (length l.others ≡ 64)
