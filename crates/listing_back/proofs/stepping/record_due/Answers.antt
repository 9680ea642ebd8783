-- `listing_back::stepping::record_due` meets its contract.
use Rattle.listing_back.proofs.Spots.{record-lost, record-large, record-other, record-full, record-goes}
use borrow.Author.Rules.{rules}
use Rattle.listing_back.proofs.stepping.record_due.Goals as goal

pub returns-in_default : goal.returns-in_default
returns-in_default c = record-lost _ _ _ _ _ _ _ _ _ c.requires.0 _ _ _ c.in_default.ensures c.stray_at.ensures (search rules) c.stopped.ensures

pub returns-then-t : goal.returns-then-t
returns-then-t c = record-large _ _ _ _ _ _ _ _ _ c.requires.0 _ _ _ c.in-Some.ensures c.if-t.true c.stopped-then-t.ensures

pub returns-then-t-k : goal.returns-then-t-k
returns-then-t-k c = record-other _ _ _ _ _ _ _ _ _ c.requires.0 _ _ _ c.in-Some.ensures c.if-t.false c.if-t-k.true c.stopped-then-t-k.ensures

pub returns-then-places-k : goal.returns-then-places-k
returns-then-places-k c = record-full _ _ _ _ _ _ _ _ _ c.requires.0 _ _ _ c.in-Some.ensures c.if-t.false c.if-t-k.false c.if-places-k.true
    c.stopped-then-places-k.ensures

pub returns : goal.returns
returns c = record-goes _ _ _ _ _ _ _ _ _ c.requires.0 _ _ _ c.in-Some.ensures c.if-t.false c.if-t-k.false c.if-places-k.false c.gone.ensures
