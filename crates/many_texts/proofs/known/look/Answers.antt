-- `many_texts::known::look` meets its contract: no text (`looks-none`), or the items of the name (`looks-at`).
use mathlib.Core.Path.{sym, ◌∙◌}
use Rattle.system_types.specs.Names.{lends}
use Rattle.many_texts.proofs.KnownLaws.{looks-none, looks-at}
use Rattle.many_texts.proofs.known.look.Goals as goal

pub find-f-requires : goal.find-f-requires
find-f-requires c = c.requires.0

pub returns-then-not-is_found : goal.returns-then-not-is_found
returns-then-not-is_found c =
    let a = c.args in
    let lent = lends a.names.now a.area.now in
    looks-none a.h a.t.now lent a.items.now a.item_area.now a.index.0 c.find-f.result c.find-f.ensures.same
    (sym c.is_found.ensures ∙ c.if-not-is_found.true)

pub known_run-requires : goal.known_run-requires
known_run-requires c = (
  c.find-f.ensures.inside,
  sym c.is_found.ensures ∙ c.if-not-is_found.false,
  c.requires.1,
  c.requires.0.fits.short,
  c.requires.2,
)

pub returns : goal.returns
returns c =
    let a = c.args in
    let lent = lends a.names.now a.area.now in
    looks-at a.h a.t.now lent a.items.now a.item_area.now a.index.0 c.find-f.result c.find-f.ensures.same
    (sym c.is_found.ensures ∙ c.if-not-is_found.false) c.known_run.ensures
