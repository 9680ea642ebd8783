-- `items::taking::put_name` meets its contract: `|` and the name (`wrote-name`).
use native.Mathlib.Omega.{arith}
use Rattle.items.proofs.TurnLaws.{wrote-name}
use Rattle.items.proofs.taking.put_name.Goals as goal

pub returns : goal.returns
returns c =
    let a = c.args in
    wrote-name a.area.now a.i a.some (omega arith) c.part_of.ensures
    c.put_bar-at.ensures c.put_bytes.ensures
