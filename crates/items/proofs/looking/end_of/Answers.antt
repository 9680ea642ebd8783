-- `items::looking::end_of` meets its contract. Invariant: all items from the first up to k have its attribute.
use native.Mathlib.Omega.{arith}
use Rattle.items.proofs.RunLaws.{same_next, end-here}
use Rattle.items.proofs.looking.end_of.Goals as goal

pub returns-then-not-same_attribute : goal.returns-then-not-same_attribute
returns-then-not-same_attribute c =
    let a = c.args in
    let l = c.loop-k in
    end-here a.area.now a.items.now a.first l.k l.invariant.1 c.loop-k-test.true
    c.item_at-i.ensures c.item_at-head.ensures
    c.same_attribute.ensures c.if-not-same_attribute.true l.invariant.2

pub loop-k-preserved : goal.loop-k-preserved
loop-k-preserved c =
    let a = c.args in
    let l = c.loop-k in (
      omega arith,
      omega (arith, l.invariant.1),
      same_next a.area.now a.items.now a.first l.k c.item_at-i.ensures
          c.item_at-head.ensures c.same_attribute.ensures
          c.if-not-same_attribute.false l.invariant.2,
    )
