-- `walk::passing::pass_foreign` meets its contract. Invariant: what is settled from here is what was settled at first. Measure: the bytes left.
use Prim.Native.Nat.{◌-◌}
use lib.ListN.{length}
use Rattle.walk.specs.Inner.Pass.{Reaches}
use Rattle.walk.proofs.passing.pass_foreign.Given as goal

abbrev pub invariant-loop-next : goal.invariant-loop-next
invariant-loop-next l = Reaches l.b l.from l.before l.reach.at l.reach.run

abbrev pub decreases-loop-next : goal.decreases-loop-next
decreases-loop-next l = length l.b - l.reach.at
