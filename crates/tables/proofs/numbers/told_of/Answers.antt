-- `tables::numbers::told_of` meets its contract: two places of these indices, and whether one index stands for both.
use native.Mathlib.Omega.{arith}
use Rattle.tables.proofs.Numbering.{told_as}
use Rattle.tables.proofs.numbers.told_of.Goals as goal

pub returns : goal.returns
returns c =
    λ h t lent k. told_as h t lent c.args.numbers.now k c.args.i.0 c.args.j.0 c.place_of.result c.place_of-2.result
    c.place_of.ensures c.place_of-2.ensures (omega arith) (omega arith)
