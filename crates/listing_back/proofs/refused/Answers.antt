-- `listing_back::refused` meets its contract.
use mathlib.Core.Path.{refl}
use Rattle.listing_back.proofs.Endings.{answer-fault}
use Rattle.listing_back.proofs.refused.Goals as goal

pub returns : goal.returns
returns c = (answer-fault _ _ _ c.own_refusal.ensures, refl)
