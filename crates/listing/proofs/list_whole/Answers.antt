-- `listing::list_whole` meets its contract: in the room of a listing the answer is a text (listed/proofs/Fits.antt).
use Rattle.listing.proofs.Laws.{lists-told}
use Rattle.listing.proofs.list_whole.Goals as goal

pub returns : goal.returns
returns c = rw c.unwrap_or.ensures (lists-told _ _ _ _ _ _ _ c.requires _ c.list_into.ensures)
