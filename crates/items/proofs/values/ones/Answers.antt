-- `items::values::ones` meets its contract.
use native.Mathlib.Omega.{arith}
use Rattle.items.proofs.FlagLaws.{ones-sum}
use Rattle.items.proofs.values.ones.Goals as goal

pub returns : goal.returns
returns c = ones-sum 32 c.args.left (omega arith)
