-- `listing_back::taking::number_next` meets its contract.
use Rattle.listing_back.proofs.Holding.{moves-none, moves-first, moves_more}
use Rattle.listing_back.proofs.taking.number_next.Goals as goal

pub returns-then-count-eq0 : goal.returns-then-count-eq0
returns-then-count-eq0 c = moves-first _ _ _ _ c.requires.0 c.requires.1 _ _ c.in_ok-n.ensures c.if-count-eq0.true c.first_taken.ensures

pub returns : goal.returns
returns c = moves_more _ _ _ _ c.requires.0 c.requires.1 _ _ c.in_ok-n.ensures _ c.store.ensures.0 c.store.ensures.1 c.if-count-eq0.false
    c.more_taken.ensures
