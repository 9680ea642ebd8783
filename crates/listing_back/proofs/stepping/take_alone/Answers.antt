-- `listing_back::stepping::take_alone` meets its contract.
use Rattle.std.proofs.Common.{[], ◌∷◌}
use Rattle.listing_back.proofs.stepping.take_alone.Goals as goal

pub returns : goal.returns
returns c = record { before = 0 ∷ []; after = c.take_form.new.words; holds = c.take_form.ensures }
