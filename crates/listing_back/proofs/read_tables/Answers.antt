-- `listing_back::read_tables` meets its contract: three tables and the end, each behind what stands before it.
use mathlib.Core.Path.{refl}
use Rattle.listing_back.specs.Forms.{form_text, forms_of}
use Rattle.listing_back.specs.Inner.Stands.{form_at}
use Rattle.listing_back.specs.Inner.Steps.{equals_in}
use Rattle.listing_back.proofs.Endings.{all_read, spot-inside}
use borrow.Author.Rules.{rules}
use Rattle.listing_back.proofs.read_tables.Goals as goal

pub read_records-a-requires : goal.read_records-a-requires
unfolding equals_in form_at forms_of form_text
read_records-a-requires c = (
  spot-inside c.args.text.now c.args.h _
      c.spot_of.ensures c.requires.inside,
  search rules,
  refl,
  search rules,
  search
      rules,
  search rules,
  search rules,
)

pub read_records-b-requires : goal.read_records-b-requires
unfolding equals_in form_at forms_of form_text
read_records-b-requires c = (c.read_records-a.ensures.inside, search rules, refl, search rules, search rules, search rules, search rules)

pub read_records-c-requires : goal.read_records-c-requires
unfolding equals_in form_at forms_of form_text
read_records-c-requires c = (c.read_records-b.ensures.inside, search rules, refl, search rules, search rules, search rules, search rules)

pub read_end-requires : goal.read_end-requires
read_end-requires c = c.read_records-c.ensures.inside

pub shape_of-nodes : goal.shape_of-nodes
shape_of-nodes c = c.read_records-a.ensures.same

pub shape_of-attributes : goal.shape_of-attributes
shape_of-attributes c = c.read_records-b.ensures.same

pub shape_of-notes : goal.shape_of-notes
shape_of-notes c = c.read_records-c.ensures.same

pub returns : goal.returns
returns c = all_read _ _ _ _ _ _ _ _ _ _ _ _ _
    c.spot_of.ensures c.requires
    c.read_records-a.ensures
    c.read_records-b.ensures
    c.read_records-c.ensures c.read_end.ensures
