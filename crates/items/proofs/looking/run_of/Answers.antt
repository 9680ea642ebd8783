-- `items::looking::run_of` meets its contract: no item (`run_none`), or all that stand together (`run-all`).
use mathlib.Core.Path.{refl}
use native.Mathlib.Omega.{arith}
use Rattle.items.proofs.RunLaws.{run_none, run-all}
use Rattle.items.proofs.looking.run_of.Goals as goal

pub returns-then-whole-first : goal.returns-then-whole-first
returns-then-whole-first c =
    let a = c.args in
    λ name found. run_none a.area.now name a.items.now found c.if-whole-first.true (omega arith) (omega arith)

pub returns : goal.returns
returns c =
    let a = c.args in
    λ name found. run-all a.area.now name a.items.now c.requires found c.if-whole-first.false refl c.end_of-end.ensures
