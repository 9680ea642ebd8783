-- `listing_back::taking::first_taken` meets its contract.
use Rattle.listing_back.proofs.Holding.{taking-by}
use Rattle.listing_back.proofs.taking.first_taken.Goals as goal

pub returns : goal.returns
returns c = taking-by _ _ _ _ _ c.is_over.ensures
