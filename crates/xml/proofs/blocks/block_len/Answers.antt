-- `xml::blocks::block_len` meets its contract: a block whose bytes all fit is chars of a name (`block-takes`).
use mathlib.Core.Path.{sym, ◌∙◌}
use Prim.Native.Nat.{ℕ, ◌<◌}
use lib.ListN.{get_or}
use Rattle.xml.proofs.Passing.{size_of-le, block-takes}
use native.Mathlib.Omega.{arith}
use Rattle.xml.proofs.blocks.block_len.Goals as goal

pub all_fit-requires : goal.all_fit-requires
all_fit-requires c = omega (arith, size_of-le c.args.form)

pub returns-then-all_fit : goal.returns-then-all_fit
returns-then-all_fit c =
    let a = c.args in
    let bytes : (k : ℕ) → get_or a.s.now k 0 < 256 = λ k. (c.type_inv.s k).fits in
    block-takes a.form a.s.now a.at _ c.size_of.ensures c.requires bytes (sym c.if-all_fit.true ∙ c.all_fit.ensures)
