-- `many_texts::index_at` meets its contract: in the part of the buffer from the place on (`tells_at`).
use Rattle.many_texts.proofs.Going.{tells_at}
use Rattle.many_texts.proofs.index_at.Goals as goal

pub returns : goal.returns
returns c =
    let a = c.args in
    tells_at a.at c.min-from.result a.out.now _ c.min-from.ensures c.index_into.ensures
