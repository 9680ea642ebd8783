-- `chunk::skip_run` meets its contract. Invariant: the run from `at` ends where the run from p does. Measure: the bytes behind p.
-- Where blocks are tried again is no matter of the contract: `retry` stands in no invariant.
use Prim.Native.Nat.{◌-◌, ◌≤◌}
use mathlib.Core.Path.{◌≡◌}
use lib.ListN.{length}
use Rattle.chunk.specs.Inner.Run.{skip_run}
use Rattle.chunk.proofs.skip_run.Given as goal

abbrev pub invariant-loop-at : goal.invariant-loop-at
invariant-loop-at l = (l.p ≤ length l.s) × (skip_run l.s l.at l.sort ≡ skip_run l.s l.p l.sort) × (l.at ≤ l.p)

abbrev pub decreases-loop-at : goal.decreases-loop-at
decreases-loop-at l = length l.s - l.p
