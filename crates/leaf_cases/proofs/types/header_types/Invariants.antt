-- `leaf_cases::types::header_types` is safe and ends. Invariant: no count is past the numbers passed.
use Prim.Native.Nat.{◌≤◌}
use Rattle.leaf_cases.proofs.types.header_types.Given as goal

abbrev pub invariant-loop-n : goal.invariant-loop-n
invariant-loop-n l = (l.back ≤ l.n) × (l.named ≤ l.n) × (l.picked ≤ l.n)
