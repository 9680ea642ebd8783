-- `walk::placing::keep_place` meets its contract: the three answers of `keep`, each one push (proofs/Attributes.antt).
use Rattle.records.specs.Repeats.{by_prefix}
use Rattle.text.specs.Content.{same_name}
use Rattle.tables.specs.Inner.Keys.{key_by}
use Rattle.walk.specs.declared.placing.Stop.TheVariants.{Full}
use Rattle.walk.proofs.Trees.{err_is}
use Rattle.walk.proofs.Attributes.{keep-full, keep-kept}
use Rattle.system_types.specs.Names.{lends}
use Rattle.walk.proofs.placing.keep_place.Goals as goal

pub returns-in_err-kept : goal.returns-in_err-kept
returns-in_err-kept c =
    let a = c.args in
    let q = c.keep in
    let x = c.in_err-kept.field-0.0 in (
      λ o h l.
          rw (err_is c.from_residual.result (Full x) c.from_residual.ensures.1)
          (keep-full (by_prefix (same_name a.h a.t.now (lends a.names.now a.area.now)))
          (key_by a.h a.t.now (lends a.names.now a.area.now)) a.nodes.now a.attributes.now q.new.nodes
          q.new.attributes a.tree o h l a.prefix a.a x c.in_err-kept.was (q.ensures.0 l)),
      q.ensures.1,
    )

pub returns : goal.returns
returns c =
    let a = c.args in
    let q = c.keep in (
      λ o h l.
          rw c.unwrap_or.ensures
          (keep-kept (by_prefix (same_name a.h a.t.now (lends a.names.now a.area.now)))
          (key_by a.h a.t.now (lends a.names.now a.area.now)) a.nodes.now a.attributes.now q.new.nodes
          q.new.attributes a.tree o h l a.prefix a.a c.in_ok-kept.kept c.in_ok-kept.was (q.ensures.0 l) q.auto.nodes q.auto.attributes),
      q.ensures.1,
    )
