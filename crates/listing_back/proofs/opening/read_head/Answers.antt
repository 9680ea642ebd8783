-- `listing_back::opening::read_head` meets its contract: seven lines, each due behind the one before it.
use mathlib.Core.Path.{refl}
use Rattle.listing_back.specs.Forms.{form_text, forms_of}
use Rattle.listing_back.specs.Inner.Stands.{form_at}
use Rattle.listing_back.specs.Inner.Steps.{equals_in}
use Rattle.listing_back.proofs.Endings.{start-inside, head_read}
use borrow.Author.Rules.{rules}
use Rattle.listing_back.proofs.opening.read_head.Goals as goal

pub number_due-a-requires : goal.number_due-a-requires
unfolding equals_in form_at forms_of form_text
number_due-a-requires c = (start-inside c.args.text.now _ c.gone.ensures, search rules, refl)

pub number_due-b-requires : goal.number_due-b-requires
unfolding equals_in form_at forms_of form_text
number_due-b-requires c = (c.number_due-a.ensures.inside, search rules, refl)

pub number_due-c-requires : goal.number_due-c-requires
unfolding equals_in form_at forms_of form_text
number_due-c-requires c = (c.number_due-b.ensures.inside, search rules, refl)

pub number_due-d-requires : goal.number_due-d-requires
unfolding equals_in form_at forms_of form_text
number_due-d-requires c = (c.number_due-c.ensures.inside, search rules, refl)

pub number_due-e-requires : goal.number_due-e-requires
unfolding equals_in form_at forms_of form_text
number_due-e-requires c = (c.number_due-d.ensures.inside, search rules, refl)

pub number_due-f-requires : goal.number_due-f-requires
unfolding equals_in form_at forms_of form_text
number_due-f-requires c = (c.number_due-e.ensures.inside, search rules, refl)

pub number_due-g-requires : goal.number_due-g-requires
unfolding equals_in form_at forms_of form_text
number_due-g-requires c = (c.number_due-f.ensures.inside, search rules, refl)

pub returns : goal.returns
returns c = head_read _ _ _ _ _ _ _ _ _ _ _ _ _ c.gone.ensures
    c.number_due-a.ensures
    c.number_due-b.ensures
    c.value_kind.ensures
    c.number_due-c.ensures
    c.count_kind-counted.ensures c.number_due-d.ensures
    c.number_due-e.ensures c.number_due-f.ensures
    c.note_kind.ensures c.number_due-g.ensures c.heading_of.ensures
