-- `utf::same::both_at` meets its contract: equal values are equal bytes, since no value's bytes begin another's.
use mathlib.Core.Bool.{true}
use Rattle.utf.proofs.Turns.{paired, took-ascii}
use Rattle.utf.proofs.same.both_at.Goals as goal

pub returns-then-y-lt128 : goal.returns-then-y-lt128
returns-then-y-lt128 c =
    let a = c.args in
    let p = c.requires in
    rw c.then_some.ensures
    (paired a.utf16_a a.a.now a.i _ 1 true a.utf16_b a.b.now a.j _ 1 true p.0 p.1
    (took-ascii _ _ _ c.if-not-utf16_a.true p.0 c.if-x-lt128.true)
    (took-ascii _ _ _ c.if-not-utf16_b.true p.1 c.if-y-lt128.true))

pub returns : goal.returns
returns c =
    let p = c.requires in
    rw c.then_some-2.ensures (paired _ _ _ _ _ _ _ _ _ _ _ _ p.0 p.1 c.next_of-t.ensures c.next_of-u.ensures)
