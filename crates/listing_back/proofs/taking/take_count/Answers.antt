-- `listing_back::taking::take_count` meets its contract.
use Rattle.listing_back.specs.Forms.{form_text, forms_of}
use Rattle.listing_back.specs.Inner.Stands.{form_at}
use Rattle.listing_back.proofs.Holding.{is-six}
use Rattle.listing_back.proofs.taking.take_count.Goals as goal

pub returns-then-n-eq3 : goal.returns-then-n-eq3
unfolding form_at forms_of form_text
returns-then-n-eq3 c = rw c.if-n-eq3.true c.take_line.ensures

pub returns-then-n-eq4 : goal.returns-then-n-eq4
unfolding form_at forms_of form_text
returns-then-n-eq4 c = rw c.if-n-eq4.true c.take_line-then-n-eq4.ensures

pub returns-then-n-eq5 : goal.returns-then-n-eq5
unfolding form_at forms_of form_text
returns-then-n-eq5 c = rw c.if-n-eq5.true c.take_line-then-n-eq5.ensures

pub returns : goal.returns
unfolding form_at forms_of form_text
returns c = rw (is-six c.args.n
    c.requires.2
    c.requires.3
    c.if-n-eq3.false c.if-n-eq4.false
    c.if-n-eq5.false) c.take_line-2.ensures
