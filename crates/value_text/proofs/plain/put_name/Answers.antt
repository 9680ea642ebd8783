-- `value_text::plain::put_name` meets its contract: the part's bytes, which are no more than a `u32` counts (`wrote-part`).
use native.Mathlib.Omega.{arith}
use Rattle.value_text.proofs.Front.{wrote-part}
use Rattle.value_text.proofs.plain.put_name.Goals as goal

pub returns : goal.returns
returns c =
    let a = c.args in
    wrote-part a.area.now a.start a.n (omega arith) c.part_of.ensures c.put_bytes.ensures
