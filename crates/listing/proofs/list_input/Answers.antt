-- `listing::list_input` meets its contract: what came in is listed, whatever follows a full room.
use Rattle.listed.proofs.Fits.{lists-le}
use Rattle.listing.proofs.Laws.{runs-of}
use Rattle.listing.proofs.list_input.Goals as goal

pub returns-clause-listed : goal.returns-clause-listed
returns-clause-listed c = runs-of _ _ _ _ _ _ _ _ _ c.requires.0 c.requires.1 c.list_whole.ensures

pub returns-clause-within : goal.returns-clause-within
returns-clause-within c = lists-le _ _ _ _ _ _ _ c.requires.2 _ c.list_whole.ensures
