-- `utf::bytes_into` meets its contract. Invariant: what is written and what is left make the whole (`Written`). Measure: the bytes left.
use Rattle.utf.proofs.Filled.{fitting, written, all-written}
use Rattle.utf.proofs.bytes_into.Goals as goal

pub put_scalar-o-requires : goal.put_scalar-o-requires
put_scalar-o-requires c =
    let k = c.next_of-t.ensures in
    let at-loop = c in
    (k.small, fitting _ _ _ _ _ _ _ _ _ at-loop.loop-at.invariant c.loop-at-test.true k at-loop.requires)

pub loop-at-preserved : goal.loop-at-preserved
loop-at-preserved c =
    let p = c in
    let q = p in
    let k = q.next_of-t.ensures in
    let w = q.loop-at.invariant in
    let h = q.loop-at-test.true in
    let fits = fitting _ _ _ _ _ _ _ _ _ w h k q.requires in
    rw p.put_scalar-o.ensures.0 (written _ _ _ _ _ _ _ _ _ _ w h k fits p.put_scalar-o.ensures.1)

pub returns : goal.returns
returns c = all-written _ _ _ _ _ _ c.loop-at.invariant c.loop-at-test.false
