-- `listing_back::taking::hold_byte` meets its contract.
use mathlib.Core.Path.{◌∙◌}
use Rattle.listing_back.proofs.Holding.{moves-end, moves-other, moves-passed}
use Rattle.listing_back.proofs.taking.hold_byte.Goals as goal

pub returns-then-text-at : goal.returns-then-text-at
returns-then-text-at c = moves-end _ _ _ _ _ c.if-text-at.true

pub returns-then-text-at-2 : goal.returns-then-text-at-2
returns-then-text-at-2 c = moves-other _ _ _ _ _ c.if-text-at.false c.if-text-at-2.true

pub number_next-requires : goal.number_next-requires
number_next-requires c = (c.if-text-at.false, c.if-text-at-2.false ∙ c.if-c-eq61.true, c.requires.0, c.requires.1)

pub returns-then-c-eq61 : goal.returns-then-c-eq61
returns-then-c-eq61 c = rw c.if-c-eq61.true c.number_next.ensures

pub returns : goal.returns
returns c = moves-passed _ _ _ _ _ _ c.if-text-at.false c.if-text-at-2.false c.if-c-eq61.false c.passed.ensures
