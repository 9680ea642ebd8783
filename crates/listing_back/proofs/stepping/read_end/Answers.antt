-- `listing_back::stepping::read_end` meets its contract.
use Rattle.listing_back.proofs.Spots.{ends-stopped, ends_there, ends-stray}
use native.Mathlib.Omega.{arith}
use Rattle.listing_back.proofs.stepping.read_end.Goals as goal

pub returns-then-before-ne0 : goal.returns-then-before-ne0
returns-then-before-ne0 c = ends-stopped _ _ _ c.if-before-ne0.true c.requires

pub returns-then-at-text : goal.returns-then-at-text
returns-then-at-text c = ends_there _ _ _ c.if-before-ne0.false c.if-at-text.true

pub returns : goal.returns
returns c = ends-stray _ _ _ _ _ c.if-before-ne0.false (omega arith) c.stray_at.ensures c.stopped.ensures
