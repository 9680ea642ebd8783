-- `many_texts::put_values` meets its contract. Invariant: the first k texts and answers (`Done`), and what is known.
use native.Mathlib.Omega.{arith}
use Rattle.system_types.specs.Names.{lends}
use Rattle.many_texts.specs.Inner.Going.{record_value}
use Rattle.many_texts.proofs.KnownLaws.{knows-none}
use Rattle.many_texts.proofs.Going.{done_first, done-step, done_all, value-turn}
use Rattle.many_texts.proofs.put_values.Goals as goal

pub loop-k-init : goal.loop-k-init
loop-k-init c =
    let a = c.args in (
      omega arith,
      done_first (record_value a.h a.t.now (lends a.names.now a.area.now) a.items.now a.item_area.now a.attributes.now)
          a.out.now a.answers.now,
      knows-none a.h a.t.now (lends a.names.now a.area.now) a.items.now a.item_area.now,
    )

pub attribute_at-requires : goal.attribute_at-requires
attribute_at-requires c = omega (
  arith,
  c.requires.3,
)

pub value_at-told-requires : goal.value_at-told-requires
value_at-told-requires c = (
  c.requires.0,
  c.requires.1,
  c.requires.2,
  c.loop-k.invariant.2,
)

pub put_told-at-requires : goal.put_told-at-requires
put_told-at-requires c = omega (
  arith,
  c.loop-k.invariant.1.utf16,
  c.requires.4,
)

pub loop-k-preserved : goal.loop-k-preserved
loop-k-preserved c =
    let a = c.args in
    let t = value-turn a.h a.t.now (lends a.names.now a.area.now) a.items.now a.item_area.now a.attributes.now
    c.loop-k.k
    c.attribute_at.ensures
    c.value_at-told.ensures.0 in (
      c.loop-k.invariant.0,
      done-step c.loop-k.invariant.0
          c.loop-k.invariant.1 t
          (c.put_told-at.ensures _ t.told),
      c.value_at-told.ensures.1,
    )

pub returns : goal.returns
returns c = done_all (omega arith) c.loop-k.invariant.1
