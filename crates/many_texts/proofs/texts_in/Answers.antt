-- `many_texts::texts_in` meets its contract: too few places, or all of them.
use Rattle.many_texts.proofs.Going.{gives-refused, gives-full, settled}
use Rattle.many_texts.proofs.texts_in.Goals as goal

pub returns-then-places-indices : goal.returns-then-places-indices
returns-then-places-indices c = gives-refused (gives-full _ _ _ _ c.if-places-indices.true) c.refuse.ensures

pub returns : goal.returns
returns c = settled c.put_texts-at.ensures c.settle.ensures
