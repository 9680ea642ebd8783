-- `items::taking::put_bar` meets its contract: `|`, or nothing.
use Rattle.digits.proofs.Written.{wrote_none}
use Rattle.items.proofs.taking.put_bar.Goals as goal

pub returns : goal.returns
returns c =
    let a = c.args in
    rw c.if-some.false (wrote_none 1 a.p a.out.now)
