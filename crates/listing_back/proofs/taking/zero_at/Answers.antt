-- `listing_back::taking::zero_at` meets its contract.
use mathlib.Core.Path.{sym, ap, ◌∙◌}
use Prim.Native.Nat.{ℕ}
use Rattle.listing_back.specs.Forms.{is_digit}
use Rattle.listing_back.proofs.Figures.{zero-padded, zero-alone}
use Rattle.listing_back.proofs.taking.zero_at.Goals as goal

pub returns-then-is_digit : goal.returns-then-is_digit
returns-then-is_digit c = zero-padded c.args.text.now c.args.p
    (sym (c.is_digit.ensures ∙ ap (λ (x : ℕ). is_digit x) c.byte_at-b.ensures)
    ∙ c.if-is_digit.true)

pub returns : goal.returns
returns c = zero-alone c.args.text.now c.args.p c.requires
    (sym (c.is_digit.ensures ∙ ap (λ (x : ℕ). is_digit x) c.byte_at-b.ensures) ∙ c.if-is_digit.false)
