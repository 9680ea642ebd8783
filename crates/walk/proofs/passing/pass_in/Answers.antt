-- `walk::passing::pass_in` meets its contract: the cursor stays, or it goes behind the foreign chunks (proofs/PastCap.antt).
use Rattle.anomaly.specs.declared.ResAnomaly.TheVariants.{NonXmlChunk}
use Rattle.anomaly.proofs.Laws.{kind_index-lt}
use Rattle.head.specs.Head.{body_in}
use Rattle.walk.proofs.PastCap.{past-cap, on-chunk}
use Rattle.walk.proofs.passing.pass_in.Goals as goal

pub is_due-requires : goal.is_due-requires
is_due-requires c = rw c.kind_index.ensures (kind_index-lt (NonXmlChunk 0))

pub is_due-requires-2 : goal.is_due-requires-2
is_due-requires-2 c = rw c.kind_index-2.ensures (kind_index-lt _)

pub pass_foreign-requires : goal.pass_foreign-requires
pass_foreign-requires c =
    rw c.body_of.ensures c.requires.inside

pub returns-in-AtChunk : goal.returns-in-AtChunk
returns-in-AtChunk c =
    let p = c.pass_foreign in
    let a = c.args in
    let one = past-cap a.cap a.notes.counts c.kind_index.ensures c.is_due.ensures c.if-is_due.false in
    let other = past-cap a.cap a.notes.counts c.kind_index-2.ensures c.is_due-2.ensures c.if-is_due-2.false in
    let reach = rw c.body_of.ensures at p.ensures in
    rw c.passed_to.ensures
    (on-chunk (body_in a.file.now a.o.head) a.cap a.notes.counts a.c p.result.at p.result.run c.in-AtChunk.is reach
    (one, other))
