-- `items::looking::find_first` meets its contract. Invariant: no item before k is of the name.
use native.Mathlib.Omega.{arith}
use Rattle.items.proofs.RunLaws.{place-lt, named_kept, first-here, first_next, first-end}
use Rattle.items.proofs.looking.find_first.Goals as goal

pub offset_bounds-firsts-place_of : goal.offset_bounds-firsts-place_of
offset_bounds-firsts-place_of c = omega (arith, c.place_of.ensures, place-lt c.args.name.now)

pub bounds-firsts-place_of : goal.bounds-firsts-place_of
bounds-firsts-place_of c = omega (
  arith,
  c.place_of.ensures,
  place-lt c.args.name.now,
  c.requires.long,
)

pub loop-k-init : goal.loop-k-init
loop-k-init c =
    let a = c.args in
    named_kept a.area.now a.items.now a.firsts.now c.requires a.name.now c.place_of.ensures

pub returns-then-is_named : goal.returns-then-is_named
returns-then-is_named c =
    let a = c.args in
    let l = c.loop-k in
    first-here a.area.now a.name.now a.items.now l.k c.loop-k-test.true c.is_named.ensures c.if-is_named.true l.invariant

pub loop-k-preserved : goal.loop-k-preserved
loop-k-preserved c =
    let a = c.args in
    let l = c.loop-k in
    first_next a.area.now a.name.now a.items.now l.k c.loop-k-test.true c.is_named.ensures c.if-is_named.false l.invariant

pub returns : goal.returns
returns c =
    let a = c.args in
    let l = c.loop-k in
    first-end a.area.now a.name.now a.items.now l.k c.loop-k-test.false l.invariant
