-- `value_text::plain::put_at` meets its contract: `@` and the name (`wrote_at`).
use native.Mathlib.Omega.{arith}
use Rattle.items.proofs.TurnLaws.{part_in-le}
use Rattle.value_text.proofs.Front.{wrote_at}
use Rattle.value_text.proofs.plain.put_at.Goals as goal

pub put_bytes-requires : goal.put_bytes-requires
put_bytes-requires c =
    let a = c.args in
    rw c.part_of.ensures (omega (arith, part_in-le a.area.now a.start a.n, c.put_byte-at.ensures.near))

pub returns : goal.returns
returns c =
    let a = c.args in
    wrote_at a.area.now a.start a.n (omega arith) c.part_of.ensures
    c.put_byte-at.ensures c.put_bytes.ensures
