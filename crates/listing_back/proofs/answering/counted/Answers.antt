-- `listing_back::answering::counted` meets its contract.
use mathlib.Core.Path.{refl}
use Rattle.errors.specs.Refusal.{numbers_of}
use Rattle.listing_back.proofs.answering.counted.Goals as goal

pub returns : goal.returns
unfolding numbers_of
returns c = refl
