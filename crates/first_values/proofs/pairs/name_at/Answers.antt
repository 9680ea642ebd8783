-- `first_values::pairs::name_at` meets its contract: a part of the area, by two words of the pair.
use Rattle.first_values.proofs.Laws.{words-name}
use Rattle.first_values.proofs.pairs.name_at.Goals as goal

pub returns : goal.returns
returns c =
    let a = c.args in
    words-name a.area.now a.pairs.now a.k c.part_of.ensures
