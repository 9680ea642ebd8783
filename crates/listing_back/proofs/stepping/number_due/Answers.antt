-- `listing_back::stepping::number_due` meets its contract.
use mathlib.Core.Path.{sym, ◌∙◌}
use Rattle.listing_back.proofs.Spots.{counts-stopped, counts-lost, counts-malformed, counts-large, counts-never, counts-goes}
use Rattle.listing_back.proofs.stepping.number_due.Goals as goal

pub returns-then-before-ne0 : goal.returns-then-before-ne0
returns-then-before-ne0 c = counts-stopped _ _ _ _ _ c.if-before-ne0.true c.requires.0

pub returns-in_default : goal.returns-in_default
returns-in_default c = counts-lost _ _ _ _ _ c.if-before-ne0.false _ _ c.in_default.ensures c.stray_at.ensures c.stopped.ensures

pub returns-then-not-passes : goal.returns-then-not-passes
returns-then-not-passes c = counts-malformed _ _ _ _ _ c.if-before-ne0.false _ _ c.in-Some.ensures c.requires.2
    (sym c.passes.ensures ∙ c.if-not-passes.true) c.stopped-then-not-passes.ensures

pub returns-then-t : goal.returns-then-t
returns-then-t c = counts-large _ _ _ _ _ c.if-before-ne0.false _ _ c.in-Some.ensures c.requires.2
    (sym c.passes.ensures ∙ c.if-not-passes.false) c.if-t.true c.stopped-then-t.ensures

pub returns-then-t-gt4294967295 : goal.returns-then-t-gt4294967295
returns-then-t-gt4294967295 c = counts-never c.args.text.now
    c.args.before
    c.args.n
    c.args.line
    c.args.kind
    c.if-before-ne0.false c.stopped-then-t-gt4294967295.result _ c.in-Some.ensures c.requires.2 c.if-t.false c.if-t-gt4294967295.true

pub returns : goal.returns
returns c = counts-goes _ _ _ _ _ c.if-before-ne0.false _ _ c.in-Some.ensures c.requires.2 c.if-t.false
    (sym c.passes.ensures ∙ c.if-not-passes.false) c.gone.ensures
