-- `text::apart::marks_of` meets its contract: what is plain and of the pool has marks (`marked-pool`), all else none (`marked-none`).
use Rattle.text.proofs.Marking.{marked-pool}
use Rattle.system_types.specs.Names.{lends}
use Rattle.text.proofs.apart.marks_of.Goals as goal

pub returns-in-Pool : goal.returns-in-Pool
returns-in-Pool c =
    let s = c in
    let a = s.args in
    marked-pool a.t.now (lends a.names.now a.area.now) a.h a.g _ c.if-plain.true s.requires.2
    c.in-Pool.is c.pool_marks.ensures
