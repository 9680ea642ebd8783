-- `listing_back::taking::digits_from` meets its contract. Invariant: the digits so far make the number so far. Measure: the bytes left.
use mathlib.Core.Path.{sym, ◌∙◌}
use native.Mathlib.Omega.{arith}
use Rattle.listing_back.proofs.Figures.{digits-first, digits_more, digits-stop, digits-end}
use Rattle.listing_back.proofs.taking.digits_from.Goals as goal

pub loop-p-init : goal.loop-p-init
loop-p-init c = digits-first c.args.text.now c.args.from c.requires

pub returns-then-not-is_digit : goal.returns-then-not-is_digit
returns-then-not-is_digit c = digits-stop c.args.text.now c.loop-p.invariant (omega arith)
    (sym c.is_digit.ensures ∙ c.if-not-is_digit.true)

pub more-v-requires : goal.more-v-requires
more-v-requires c =
    let v = c.loop-p.invariant.value in omega arith

pub loop-p-preserved : goal.loop-p-preserved
loop-p-preserved c = digits_more c.args.text.now
    c.loop-p.invariant (omega arith)
    (sym c.is_digit.ensures ∙ c.if-not-is_digit.false) c.more-v.ensures

pub returns : goal.returns
returns c = digits-end c.args.text.now c.loop-p.invariant (omega arith)
