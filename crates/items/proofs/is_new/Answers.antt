-- `items::is_new` meets its contract. Invariant: what the items before j say is what all of them say.
use mathlib.Core.Path.{sym, ◌∙◌}
use native.Mathlib.Omega.{arith}
use Rattle.items.proofs.Laws.{is_new-same, is_new-other}
use Rattle.items.proofs.RunLaws.{place-lt, new_told}
use Rattle.items.proofs.is_new.Goals as goal

pub offset_bounds-firsts-place_of : goal.offset_bounds-firsts-place_of
offset_bounds-firsts-place_of c = omega (arith, c.place_of.ensures, place-lt c.part_of.result.now)

pub bounds-firsts-place_of : goal.bounds-firsts-place_of
bounds-firsts-place_of c = omega (arith, c.place_of.ensures, place-lt c.part_of.result.now, c.requires.1.long)

pub returns-then-same_attribute : goal.returns-then-same_attribute
returns-then-same_attribute c =
    let a = c.args in
    let l = c.loop-j in
    sym (l.invariant.1 ∙ is_new-same a.area.now a.items.now a.i l.j (omega (arith, c.loop-j-test.true)) c.item_at-p.ensures
    c.same_attribute.ensures c.if-same_attribute.true)

pub loop-j-preserved : goal.loop-j-preserved
loop-j-preserved c =
    let a = c.args in
    let l = c.loop-j in (
      omega arith,
      l.invariant.1 ∙ is_new-other a.area.now a.items.now a.i l.j (omega (arith, c.loop-j-test.true)) c.item_at-p.ensures
          c.same_attribute.ensures c.if-same_attribute.false,
    )

pub returns : goal.returns
returns c =
    let s = c in
    let a = s.args in
    let l = c.loop-j in
    sym (l.invariant.1 ∙ new_told a.area.now a.items.now a.firsts.now s.requires.1 a.i l.j
    c.part_of.ensures c.place_of.ensures
    (omega (arith, s.requires.0, l.invariant.0)) c.loop-j-test.false)
