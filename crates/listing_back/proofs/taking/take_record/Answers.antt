-- `listing_back::taking::take_record` meets its contract.
use Rattle.listing_back.specs.Forms.{form_text, forms_of}
use Rattle.listing_back.specs.Inner.Stands.{form_at}
use Rattle.listing_back.proofs.Holding.{is-nine}
use Rattle.listing_back.proofs.taking.take_record.Goals as goal

pub returns-then-n-eq7 : goal.returns-then-n-eq7
unfolding form_at forms_of form_text
returns-then-n-eq7 c = rw c.if-n-eq7.true c.take_line.ensures

pub returns-then-n-eq8 : goal.returns-then-n-eq8
unfolding form_at forms_of form_text
returns-then-n-eq8 c = rw c.if-n-eq8.true c.take_line-then-n-eq8.ensures

pub returns : goal.returns
unfolding form_at forms_of form_text
returns c = rw (is-nine c.args.n
    c.requires.2
    c.requires.3
    c.if-n-eq7.false c.if-n-eq8.false)
    c.take_line-2.ensures
