-- `tables::by_number::same_by` meets its contract: an index is that of its own text where it has one.
use Rattle.system_types.specs.Names.{lends}
use Rattle.tables.proofs.Numbering.{found-own}
use Rattle.tables.proofs.by_number.same_by.Goals as goal

pub returns-then-index-name : goal.returns-then-index-name
returns-then-index-name c =
    let a = c.args in
    (found-own a.h a.t.now (lends a.names.now a.area.now) a.index.0 a.name.0 a.g c.requires.1 c.is_found.ensures c.if-index-name.true, c.requires.3)
