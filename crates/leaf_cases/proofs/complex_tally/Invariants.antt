-- `leaf_cases::complex_tally` is safe and ends. Invariant: no count is past the bytes passed.
use Prim.Native.Nat.{◌≤◌, ◌+◌}
use mathlib.Core.Path.{◌≡◌}
use lib.ListN.{length}
use Rattle.std.specs.Slice.Iter.{chunks_exact_rest, chunks_exact_size}
use Rattle.leaf_cases.proofs.complex_tally.Given as goal

abbrev pub invariant-loop-line : goal.invariant-loop-line
invariant-loop-line l = goal.iterator-loop-line.can_next l.line-iterator × goal.iterator-loop-line.is_finite l.line-iterator
    × (chunks_exact_size l.line-iterator ≡ 26) × (l.all + length (chunks_exact_rest l.line-iterator) ≤ length l.s) × (l.right ≤ l.all)
