-- `listing_back::opening::count_kind` meets its contract.
use borrow.Author.Tests.{eq-eqb, ne_eqb}
use Rattle.listing_back.proofs.opening.count_kind.Goals as goal

pub returns-then-refusal-eq0 : goal.returns-then-refusal-eq0
returns-then-refusal-eq0 c = λ v. rw (eq-eqb _ 0 c.if-refusal-eq0.true)

pub returns : goal.returns
returns c = λ v. rw (ne_eqb _ 0 c.if-refusal-eq0.false)
