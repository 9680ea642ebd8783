-- `listing_back::taking::take_first` meets its contract.
use Rattle.listing_back.specs.Forms.{form_text, forms_of}
use Rattle.listing_back.specs.Inner.Stands.{form_at}
use Rattle.listing_back.proofs.Holding.{is-two}
use Rattle.listing_back.proofs.taking.take_first.Goals as goal

pub returns-then-n-eq0 : goal.returns-then-n-eq0
unfolding form_at forms_of form_text
returns-then-n-eq0 c = rw c.if-n-eq0.true c.take_line.ensures

pub returns-then-n-eq1 : goal.returns-then-n-eq1
unfolding form_at forms_of form_text
returns-then-n-eq1 c = rw c.if-n-eq1.true c.take_line-then-n-eq1.ensures

pub returns : goal.returns
unfolding form_at forms_of form_text
returns c = rw (is-two c.args.n
    c.requires.2
    c.if-n-eq0.false c.if-n-eq1.false)
    c.take_line-2.ensures
