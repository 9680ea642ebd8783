-- `listing_back::stepping::stray_at` meets its contract. Invariant: none of the forms so far is that of the line.
use mathlib.Core.Path.{◌≡◌}
use lib.ListN.{drop}
use Rattle.listing_back.specs.Forms.{forms}
use Rattle.listing_back.specs.Due.{stray_in, stray}
use Rattle.listing_back.proofs.stepping.stray_at.Given as goal

abbrev pub invariant-loop-n : goal.invariant-loop-n
invariant-loop-n l = stray (drop l.at l.text) ≡ stray_in (drop l.n forms) (drop l.at l.text)
