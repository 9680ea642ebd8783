-- `listing_back::opening::note_kind` meets its contract.
use borrow.Author.Tests.{eq-eqb, ne_eqb}
use Rattle.listing_back.proofs.Endings.{both_zero}
use Rattle.listing_back.proofs.opening.note_kind.Goals as goal

pub returns-then-refusal-ne0 : goal.returns-then-refusal-ne0
returns-then-refusal-ne0 c = λ v. rw (ne_eqb _ 0 c.if-refusal-ne0.true) (both_zero c.args.cap v)

pub returns-then-cap-eq0 : goal.returns-then-cap-eq0
returns-then-cap-eq0 c = λ v. rw (eq-eqb _ 0 c.if-refusal-ne0.false, eq-eqb _ 0 c.if-cap-eq0.true)

pub returns : goal.returns
returns c = λ v. rw (eq-eqb _ 0 c.if-refusal-ne0.false, ne_eqb _ 0 c.if-cap-eq0.false)
