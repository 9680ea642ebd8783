-- `first_values::answer_each` meets its contract: the answers to the pairs in turn.
-- Invariant: the answers to the first k pairs stand in front, and the node is that of the pair before k.
use Prim.Native.Nat.{◌*◌}
use mathlib.Core.Path.{◌≡◌}
use mathlib.Core.List.{◌++◌}
use lib.ListN.{drop}
use Rattle.records.specs.Words.{answer_width}
use Rattle.system_types.specs.Names.{lends}
use Rattle.first_values.specs.Pairs.{answers_from}
use Rattle.first_values.specs.Inner.Known.{finds_in, asks_in, NodeOf}
use Rattle.first_values.proofs.answer_each.Given as goal

abbrev pub invariant-loop-k : goal.invariant-loop-k
invariant-loop-k l = (l.answers ≡ answers_from (asks_in l.h l.t (lends l.names l.area) l.nodes l.node_count l.attributes) l.pair_area l.k l.pairs ++ drop (answer_width * l.k) l.initial.answers)
    × NodeOf (finds_in l.h l.t (lends l.names l.area) l.nodes l.node_count) l.pairs l.pair_area l.k l.node
