-- `many_texts::value_by` meets its contract: the leading attribute (`value-uri`), no name (`value-no-name`), a name (`value-run`).
use mathlib.Core.Path.{refl}
use Rattle.system_types.specs.Names.{lends}
use Rattle.text.specs.Content.{content_of, text_in}
use Rattle.value_text.proofs.Looking.{none_by, value-uri, value-no-name, value-run}
use Rattle.many_texts.proofs.KnownLaws.{looks-same}
use Rattle.many_texts.proofs.value_by.Goals as goal

pub returns-then-a-eq2 : goal.returns-then-a-eq2
returns-then-a-eq2 c =
    let a = c.args in
    let lent = lends a.names.now a.area.now in (
      value-uri a.h a.t.now lent a.items.now a.item_area.now a.a c.if-a-eq2.true
          c.uri_into.ensures,
      c.requires.3,
    )

pub look_up-requires : goal.look_up-requires
look_up-requires c = (
  c.requires.0,
  c.requires.1,
  c.requires.2,
  c.requires.3,
)

pub named_into-requires : goal.named_into-requires
named_into-requires c =
    let a = c.args in
    let lent = lends a.names.now a.area.now in
    let g = looks-same a.h a.t.now lent a.items.now a.item_area.now a.a.name.0 c.in-Some.is
    c.look_up.ensures.0 in (
      c.requires.0,
      g.run.fits,
    )

pub returns-in_default : goal.returns-in_default
returns-in_default c =
    let a = c.args in
    let lent = lends a.names.now a.area.now in
    let g = looks-same a.h a.t.now lent a.items.now a.item_area.now a.a.name.0 (none_by c.look_up.result c.in_default.not-Some)
    c.look_up.ensures.0 in (
      value-no-name a.h a.t.now lent a.items.now a.item_area.now a.a
          c.if-a-eq2.false g refl refl,
      c.look_up.ensures.1,
    )

pub returns : goal.returns
returns c =
    let a = c.args in
    let lent = lends a.names.now a.area.now in
    let g = looks-same a.h a.t.now lent a.items.now a.item_area.now a.a.name.0
    c.in-Some.is
    c.look_up.ensures.0 in
    let name = text_in (content_of a.h a.t.now lent a.a.name.0) in (
      value-run a.h a.t.now lent a.items.now a.item_area.now a.a
          c.if-a-eq2.false g.named
          (c.named_into.ensures name g.run),
      c.look_up.ensures.1,
    )
