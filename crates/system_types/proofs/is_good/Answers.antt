-- `system_types::is_good` meets its contract: of an area that is ASCII as a whole the part is ASCII.
use Rattle.std.proofs.Common.{sym, arith}
use Rattle.system_types.proofs.Laws.{is_good-plain}
use Rattle.system_types.proofs.is_good.Goals as goal

pub returns-then-plain : goal.returns-then-plain
returns-then-plain c =
    let a = c.args in
    let top = c.if-id-ne1.false in
    let e = c.requires c.if-plain.true in
    sym (is_good-plain a.area.now a.last.0 a.id.0 a.start a.n e (omega arith) top (omega arith) (omega arith))
