-- `many_texts::value_at` meets its contract: in the part of the buffer from the place on (`tells_at`).
use Rattle.many_texts.proofs.Going.{tells_at}
use Rattle.many_texts.proofs.value_at.Goals as goal

pub value_by-requires : goal.value_by-requires
value_by-requires c = c.requires

pub returns : goal.returns
returns c =
    let a = c.args in (
      tells_at a.at c.min-from.result a.out.now _
          c.min-from.ensures
          c.value_by.ensures.0,
      c.value_by.ensures.1,
    )
