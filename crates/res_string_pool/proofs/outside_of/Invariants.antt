-- `res_string_pool::outside_of` meets its contract. Invariant: k counts the offsets outside among the first i.
use mathlib.Core.Path.{◌≡◌}
use Rattle.res_string_pool.specs.Pool.{outside_of}
use Rattle.res_string_pool.proofs.outside_of.Given as goal

abbrev pub invariant-loop-i : goal.invariant-loop-i
invariant-loop-i l = l.k ≡ outside_of l.o l.size l.i
