-- `items::taking::put_turn` meets its contract: an item that is taken (`turned-name`), and any other (`turned_none`).
use Rattle.items.proofs.TurnLaws.{turned_none}
use Rattle.items.proofs.taking.put_turn.Goals as goal

pub returns : goal.returns
returns c =
    let a = c.args in
    turned_none a.area.now a.i a.st a.out.now a.out.now c.is_taken.ensures c.if-is_taken.false
