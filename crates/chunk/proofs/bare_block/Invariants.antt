-- `chunk::bare_block` meets its contract. Invariant: all eight are bare if there is no doubt yet and the rest is.
use Prim.Native.Nat.{◌+◌, ◌-◌, ◌*◌, ◌≤◌}
use mathlib.Core.Path.{◌≡◌}
use mathlib.Core.Bool.{◌&&◌}
use lib.ListN.{drop}
use lib.Dec.{eqb}
use Rattle.chunk.specs.Inner.HeaderOnly.{all_bare}
use Rattle.chunk.proofs.bare_block.Given as goal

abbrev pub invariant-loop-k : goal.invariant-loop-k
invariant-loop-k l = (l.doubts ≤ l.k) × (all_bare 8 (drop l.at l.s) ≡ (eqb l.doubts 0 && all_bare (8 - l.k) (drop (l.at + 8 * l.k) l.s)))
