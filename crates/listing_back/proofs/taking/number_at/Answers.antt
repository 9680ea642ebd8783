-- `listing_back::taking::number_at` meets its contract.
use mathlib.Core.Path.{sym, ◌∙◌}
use native.Mathlib.Omega.{arith}
use Rattle.listing_back.proofs.Figures.{number-end, number-none-at, number-digits-at}
use Rattle.listing_back.proofs.taking.number_at.Goals as goal

pub returns-then-text-p : goal.returns-then-text-p
returns-then-text-p c = rw (number-end c.args.text.now c.args.p c.if-text-p.true) tt

pub returns-then-not-is_digit : goal.returns-then-not-is_digit
returns-then-not-is_digit c = rw (number-none-at c.args.text.now
    c.args.p (omega arith)
    (sym c.is_digit.ensures ∙ c.if-not-is_digit.true)) tt

pub returns : goal.returns
returns c = rw (number-digits-at c.args.text.now
    c.args.p (omega arith)
    (sym c.is_digit.ensures ∙ c.if-not-is_digit.false)) c.digits_from.ensures
