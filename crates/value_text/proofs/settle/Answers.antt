-- `value_text::settle` meets its contract: a text that is longer (`gives-short`), one that fits (`gives-text`).
use Rattle.value_text.proofs.Front.{gives-short, gives-text}
use Rattle.value_text.proofs.settle.Goals as goal

pub returns-then-out-n : goal.returns-then-out-n
returns-then-out-n c = λ s l a. gives-short a 0 _ c.if-out-n.true c.refuse.ensures

pub returns : goal.returns
returns c = λ s l a. gives-text a 0 _ c.if-out-n.false c.zero.ensures
