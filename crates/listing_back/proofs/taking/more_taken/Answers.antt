-- `listing_back::taking::more_taken` meets its contract.
use mathlib.Core.Path.{ap, ◌∙◌}
use mathlib.Core.Bool.{Bool, ◌||◌}
use Rattle.listing_back.proofs.Holding.{taking-by}
use Rattle.listing_back.proofs.taking.more_taken.Goals as goal

pub returns : goal.returns
returns c = taking-by _ _ _ _ _ (c.either.ensures ∙ ap (λ (x : Bool). c.args.f.over || x) c.is_over.ensures)
