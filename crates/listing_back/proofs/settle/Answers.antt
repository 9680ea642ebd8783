-- `listing_back::settle` meets its contract.
use Rattle.listing_back.proofs.settle.Goals as goal

pub returns-then-fault-ne0 : goal.returns-then-fault-ne0
returns-then-fault-ne0 c = ((λ h. c.zero_all.ensures), (λ h. absurd (c.if-fault-ne0.true h)))

pub zero_from-requires : goal.zero_from-requires
zero_from-requires c = c.requires c.if-fault-ne0.false

pub returns : goal.returns
returns c = ((λ h. absurd (h c.if-fault-ne0.false)), (λ h. c.zero_from.ensures))
