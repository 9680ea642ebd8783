-- `chunk::bare_block` meets its contract. Invariant: all eight are bare if there is no doubt yet and the rest is.
use Prim.Native.Nat.{◌+◌, ◌*◌}
use native.Mathlib.Omega.{arith}
use mathlib.Core.Path.{sym, ◌∙◌}
use lib.ListN.{drop}
use Rattle.chunk.specs.Inner.HeaderOnly.{is_bare}
use Rattle.chunk.proofs.HeaderOnly.{all_bare-step, all_bare-stop, doubt-le}
use Rattle.chunk.proofs.bare_block.Goals as goal

pub loop-k-preserved : goal.loop-k-preserved
loop-k-preserved c =
    let a = c.args in
    let k = c.loop-k.k in
    let d = c.loop-k.doubts in
    let most = doubt-le (is_bare (drop (a.at + 8 * k) a.s.now)) c.doubt_at-doubts.ensures in
    let step = all_bare-step 8 k d c.doubt_at-doubts.result a.s.now a.at (omega arith) c.doubt_at-doubts.ensures in
    (omega arith, c.loop-k.invariant.1 ∙ step)

pub returns : goal.returns
returns c =
    let a = c.args in
    let k = c.loop-k.k in
    all_bare-stop 8 k c.loop-k.doubts (drop (a.at + 8 * k) a.s.now) (omega arith) ∙ sym c.loop-k.invariant.1
