-- `listing_back::taking::take_form` meets its contract.
use Rattle.listing_back.proofs.taking.take_form.Goals as goal

pub returns-then-n-lt3 : goal.returns-then-n-lt3
returns-then-n-lt3 c = c.take_first.ensures

pub returns-then-n-lt7 : goal.returns-then-n-lt7
returns-then-n-lt7 c = c.take_count.ensures

pub returns : goal.returns
returns c = c.take_record.ensures
