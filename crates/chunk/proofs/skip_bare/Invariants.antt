-- `chunk::skip_bare` meets its contract. Invariant: the run from `at` ends where the run from p does. Measure: the bytes behind p.
use Prim.Native.Nat.{◌≤◌, ◌-◌}
use mathlib.Core.Path.{◌≡◌}
use lib.ListN.{length}
use Rattle.chunk.specs.Inner.Run.{skip_run}
use Rattle.chunk.proofs.skip_bare.Given as goal

abbrev pub invariant-loop-p : goal.invariant-loop-p
invariant-loop-p l = (l.p ≤ length l.s) × (skip_run l.s l.at 0 ≡ skip_run l.s l.p 0) × (l.at ≤ l.p)

abbrev pub decreases-loop-p : goal.decreases-loop-p
decreases-loop-p l = length l.s - l.p
