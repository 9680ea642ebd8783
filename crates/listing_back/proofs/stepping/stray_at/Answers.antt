-- `listing_back::stepping::stray_at` meets its contract. Invariant: none of the forms so far is that of the line.
use mathlib.Core.Path.{sym, ◌∙◌}
use Rattle.listing_back.proofs.Strays.{stray-start, stray-ends, stray-on, stray-here, stray-last}
use Rattle.listing_back.proofs.stepping.stray_at.Goals as goal

pub returns-then-text-at : goal.returns-then-text-at
returns-then-text-at c = sym (stray-ends c.args.text.now c.args.at c.if-text-at.true)

pub loop-n-init : goal.loop-n-init
loop-n-init c = stray-start c.args.text.now c.args.at c.if-text-at.false

pub returns-then-x-ne0 : goal.returns-then-x-ne0
returns-then-x-ne0 c = sym (c.loop-n.invariant ∙ stray-here c.loop-n.n _ _ c.loop-n-test.true c.stray_as-x.ensures c.if-x-ne0.true)

pub loop-n-preserved : goal.loop-n-preserved
loop-n-preserved c = c.loop-n.invariant ∙ stray-on c.loop-n.n _ _ c.loop-n-test.true c.stray_as-x.ensures c.if-x-ne0.false

pub returns : goal.returns
returns c = sym (c.loop-n.invariant ∙ stray-last c.loop-n.n _ c.loop-n-test.false)
