-- `listing_back::accepted` meets its contract.
use mathlib.Core.Path.{refl}
use Rattle.listing_back.proofs.accepted.Goals as goal

pub returns : goal.returns
returns c = (c.listed_answer.ensures, refl)
