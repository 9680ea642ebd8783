-- `tables::numbers::enter_at` meets its contract: the number is that of the text, and one index stands for it (`numbered_more`).
use Rattle.std.proofs.Common.{ap, ◌∙◌}
use Rattle.system_types.specs.Names.{lends}
use Rattle.tables.specs.Inner.Keys.{hash_in}
use Rattle.tables.proofs.Numbering.{numbered_more}
use Rattle.tables.proofs.numbers.enter_at.Goals as goal

pub returns : goal.returns
returns c =
    let a = c.args in
    numbered_more a.h a.t.now (lends a.names.now a.area.now) a.numbers.now c.requires.2 a.p a.index.0 c.first_same-first.result
    c.hash_found-number.result c.requires.4 c.first_same-first.ensures (c.hash_found-number.ensures ∙ ap (hash_in 0) c.requires.1.same) c.put.ensures
