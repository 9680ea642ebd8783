-- `first_value::runs::runs_fit` meets its contract: it stops at the first node whose attributes pass the count.
-- Invariant: the nodes from k on say what all of them say.
use Prim.Native.Nat.{◌-◌, ◌*◌}
use mathlib.Core.Path.{◌≡◌}
use lib.ListN.{drop}
use Rattle.records.specs.Words.{node_width}
use Rattle.first_value.specs.Question.{runs_from}
use Rattle.first_value.proofs.runs.runs_fit.Given as goal

abbrev pub invariant-loop-k : goal.invariant-loop-k
invariant-loop-k l = runs_from l.attribute_count 0 l.node_count l.nodes ≡ runs_from l.attribute_count l.k (l.node_count - l.k) (drop (node_width * l.k) l.nodes)
