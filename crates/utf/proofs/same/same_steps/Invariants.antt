-- `utf::same::same_steps` meets its contract. Invariant: what is left of the two texts is the same or not as they are. Measure: what is left of a.
use mathlib.Core.Path.{◌≡◌}
use Prim.Native.Nat.{◌-◌}
use lib.ListN.{length, drop}
use Rattle.utf.specs.Text.{steps_of, bytes_of, eq_bytes}
use Rattle.utf.proofs.same.same_steps.Given as goal

abbrev pub invariant-loop-i : goal.invariant-loop-i
invariant-loop-i l = eq_bytes (bytes_of (steps_of l.utf16_a (drop l.i l.a))) (bytes_of (steps_of l.utf16_b (drop l.j l.b))) ≡ eq_bytes (bytes_of (steps_of l.utf16_a l.a)) (bytes_of (steps_of l.utf16_b l.b))

abbrev pub decreases-loop-i : goal.decreases-loop-i
decreases-loop-i l = length l.a - l.i
