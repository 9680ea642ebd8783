-- `tables::numbers::is_met` meets its contract: a text of another number is another.
use Rattle.system_types.specs.Names.{lends}
use Rattle.tables.proofs.Numbering.{met-other}
use Rattle.tables.proofs.numbers.is_met.Goals as goal

pub returns-then-numbers-q : goal.returns-then-numbers-q
returns-then-numbers-q c =
    let a = c.args in
    met-other a.h a.t.now (lends a.names.now a.area.now) a.numbers.now c.requires.3 a.own.0 a.q a.number
    c.requires.4 c.if-seen-eq0.false c.if-numbers-q.true c.requires.2
