-- `many_texts::zero_behind` meets its contract: zeros in the part from the place on (`zero-tail`).
use Rattle.head.proofs.Zeros.{zero-tail}
use Rattle.many_texts.proofs.zero_behind.Goals as goal

pub returns : goal.returns
returns c =
    let a = c.args in
    zero-tail a.out.now c.zero.new.out a.from c.zero.ensures
