-- `listing_back::answering::listed_answer` meets its contract.
use mathlib.Core.Path.{◌∙◌}
use Rattle.listing_back.proofs.Endings.{answer-counted, heading-sayable, answer-refused}
use Rattle.listing_back.proofs.answering.listed_answer.Goals as goal

pub returns-then-h-eq0 : goal.returns-then-h-eq0
returns-then-h-eq0 c = c.counted.ensures ∙ answer-counted _ c.if-h-eq0.true c.requires

pub listed_refusal-requires : goal.listed_refusal-requires
listed_refusal-requires c = heading-sayable _ c.if-h-eq0.false c.requires

pub returns : goal.returns
returns c = answer-refused _ _ c.if-h-eq0.false c.requires c.listed_refusal.ensures
