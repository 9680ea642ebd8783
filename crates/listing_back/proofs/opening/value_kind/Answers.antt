-- `listing_back::opening::value_kind` meets its contract.
use borrow.Author.Tests.{eq-eqb, ne_eqb}
use Rattle.listing_back.proofs.opening.value_kind.Goals as goal

pub returns-then-refusal-eq0 : goal.returns-then-refusal-eq0
returns-then-refusal-eq0 c = λ v. rw (eq-eqb _ 0 c.if-refusal-eq0.true)

pub returns-then-refusal-eq2 : goal.returns-then-refusal-eq2
returns-then-refusal-eq2 c = λ v. rw (ne_eqb _ 0 c.if-refusal-eq0.false, eq-eqb _ 2 c.if-refusal-eq2.true)

pub returns-then-refusal-eq6 : goal.returns-then-refusal-eq6
returns-then-refusal-eq6 c = λ v. rw (ne_eqb _ 0 c.if-refusal-eq0.false, ne_eqb _ 2 c.if-refusal-eq2.false, eq-eqb _ 6 c.if-refusal-eq6.true)

pub returns : goal.returns
returns c = λ v. rw (ne_eqb _ 0 c.if-refusal-eq0.false, ne_eqb _ 2 c.if-refusal-eq2.false, ne_eqb _ 6 c.if-refusal-eq6.false)
