-- `first_values::pairs::tag_at` meets its contract: a part of the area, by two words of the pair.
use Rattle.first_values.proofs.Laws.{words-tag}
use Rattle.first_values.proofs.pairs.tag_at.Goals as goal

pub returns : goal.returns
returns c =
    let a = c.args in
    words-tag a.area.now a.pairs.now a.k c.part_of.ensures
