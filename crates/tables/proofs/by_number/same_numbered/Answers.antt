-- `tables::by_number::same_numbered` meets its contract: an index is that of its own text where it has one.
use Rattle.system_types.specs.Names.{lends}
use Rattle.tables.proofs.Numbering.{same-own}
use Rattle.tables.proofs.by_number.same_numbered.Goals as goal

pub returns-then-i-j : goal.returns-then-i-j
returns-then-i-j c =
    let a = c.args in
    (same-own a.h a.t.now (lends a.names.now a.area.now) a.i.0 a.j.0 c.has_text.ensures c.if-i-j.true, c.requires.1)
