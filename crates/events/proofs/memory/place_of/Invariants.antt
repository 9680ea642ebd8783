-- `events::memory::place_of` meets its contract: a remainder is below 512, whatever stands at a place. Measure: the places left.
use Prim.Native.Nat.{◌-◌, ◌≤◌, ◌<◌}
use Rattle.events.specs.Inner.Remembered.{strings}
use Rattle.events.proofs.memory.place_of.Given as goal

abbrev pub invariant-loop-k : goal.invariant-loop-k
invariant-loop-k l = (l.k ≤ l.near) × (l.least < strings)

abbrev pub decreases-loop-k : goal.decreases-loop-k
decreases-loop-k l = l.near - l.k
