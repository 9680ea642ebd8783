-- `utf::block_run` meets its contract (Invariants.antt).
use Prim.Native.Nat.{ℕ, ◌<◌}
use mathlib.Core.Path.{sym, ◌∙◌}
use lib.ListN.{get_or}
use Rattle.utf.proofs.Blocks.{passed-next}
use Rattle.utf.proofs.block_run.Goals as goal

pub loop-block-preserved : goal.loop-block-preserved
loop-block-preserved c =
    let bytes : (i : ℕ) → get_or c.args.s.now i 0 < 256 = λ i. (c.type_inv.s i).fits in
    let step = c.in-Some.ensures.steps in
    passed-next _ _ _ _ _ _ c.in-Some.block.now _ _ c.loop-block.invariant step.0 step.1.0 step.1.1 bytes
    (sym c.is_single.ensures ∙ c.if-not-is_single.false)
