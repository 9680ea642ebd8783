-- `listing_back::stepping::stray_as` meets its contract.
use Rattle.listing_back.proofs.Strays.{stray-none, stray-over, stray-fine}
use Rattle.listing_back.proofs.stepping.stray_as.Goals as goal

pub returns-in_default : goal.returns-in_default
returns-in_default c = stray-none _ c.in_default.ensures

pub returns-then-t : goal.returns-then-t
returns-then-t c = stray-over _ c.in-Some.ensures c.if-t.true

pub returns : goal.returns
returns c = stray-fine _ c.in-Some.ensures c.if-t.false
