-- `many_texts::put_none` meets its contract (`puts_none`).
use mathlib.Core.Path.{refl}
use native.Mathlib.Omega.{arith}
use Rattle.many_texts.proofs.Going.{puts_none}
use Rattle.many_texts.proofs.put_none.Goals as goal

pub returns : goal.returns
returns c =
    let a = c.args in
    λ v s w. puts_none a.k a.at v a.answers.now _ c.requires refl (omega arith) s w c.put_answer.ensures
