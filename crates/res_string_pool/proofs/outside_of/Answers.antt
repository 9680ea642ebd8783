-- `res_string_pool::outside_of` meets its contract. Invariant: k counts the offsets outside among the first i.
use mathlib.Core.Path.{refl}
use native.Mathlib.Omega.{arith}
use Rattle.res_string_pool.specs.Pool.{outside_of, offset_of}
use Rattle.res_string_pool.proofs.Offsets.{outside_of-out, outside_of-in, outside_of-le}
use Rattle.res_string_pool.proofs.outside_of.Goals as goal
use Rattle.res_string_pool.proofs.outside_of.Goals.{then-size-u32_at, else-size-u32_at}

pub loop-i-init : goal.loop-i-init
unfolding outside_of
loop-i-init c = refl

pub overflow_add-k : goal.overflow_add-k
overflow_add-k c =
    let a = c.args in
    omega (arith, outside_of-le a.o.now a.size c.loop-i.i)

pub loop-i-preserved : goal.loop-i-preserved
unfolding offset_of
loop-i-preserved c =
    let a = c.args in
    let l = c.loop-i in
    elim c.if-size-u32_at.branch [
      | then-size-u32_at w ↦ omega (arith, outside_of-out a.o.now a.size l.i (omega arith))
      | else-size-u32_at w ↦ omega (arith, outside_of-in a.o.now a.size l.i (omega arith))
    ]
