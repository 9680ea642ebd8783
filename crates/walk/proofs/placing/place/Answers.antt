-- `walk::placing::place` meets its contract: one answer for each event (proofs/EventCases.antt).
use Rattle.records.specs.Repeats.{by_prefix}
use Rattle.text.specs.Content.{same_name}
use Rattle.tables.specs.Inner.Keys.{key_by}
use Rattle.walk.proofs.EventCases.{not_end, not-other, place-as}
use Rattle.system_types.specs.Names.{lends}
use Rattle.walk.proofs.placing.place.Goals as goal

pub returns-in-Open : goal.returns-in-Open
returns-in-Open c =
    let a = c.args in
    let q = c.open_place in
    let rule = by_prefix (same_name a.h a.t.now (lends a.names.now a.area.now)) in
    let key = key_by a.h a.t.now (lends a.names.now a.area.now) in (
      (λ o h l. place-as rule key a.nodes.now a.attributes.now a.tree o a.e q.result q.new.nodes a.attributes.now _ c.in-Open.is
          (q.ensures rule key o h l)),
      not_end q.result a.e (not-other a.e _ c.in-Open.is tt),
      c.requires.2,
    )

pub returns-in-Attribute : goal.returns-in-Attribute
returns-in-Attribute c =
    let a = c.args in
    let q = c.keep_place in
    let rule = by_prefix (same_name a.h a.t.now (lends a.names.now a.area.now)) in
    let key = key_by a.h a.t.now (lends a.names.now a.area.now) in (
      (λ o h l.
          place-as rule key a.nodes.now a.attributes.now a.tree o a.e q.result q.new.nodes q.new.attributes _ c.in-Attribute.is
          (q.ensures.0 o h l)),
      not_end q.result a.e (not-other a.e _ c.in-Attribute.is tt),
      q.ensures.1,
    )

pub returns-in-Close : goal.returns-in-Close
returns-in-Close c =
    let a = c.args in
    let q = c.close_place in
    let rule = by_prefix (same_name a.h a.t.now (lends a.names.now a.area.now)) in
    let key = key_by a.h a.t.now (lends a.names.now a.area.now) in (
      (λ o h l. place-as rule key a.nodes.now a.attributes.now a.tree o a.e q.result a.nodes.now a.attributes.now _ c.in-Close.is
          (q.ensures rule key o h l)),
      not_end q.result a.e (not-other a.e _ c.in-Close.is tt),
      c.requires.2,
    )
