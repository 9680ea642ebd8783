-- `chunk::doubt_at` meets its contract: the two tests are those of `is_bare`.
use Prim.Native.Nat.{◌<◌}
use native.Mathlib.Omega.{arith}
use lib.ListN.{get_or}
use Rattle.chunk.proofs.HeaderOnly.{doubt-here}
use Rattle.chunk.proofs.doubt_at.Goals as goal

pub returns : goal.returns
returns c =
    let a = c.args in
    let low : get_or a.s.now a.at 0 < 256 = omega (arith, c.type_inv.s a.at) in
    doubt-here a.s.now a.at c.u32_at.result low c.u32_at.ensures
