-- `listing_back::stepping::read_records` meets its contract. Invariant: the records before the k-th are read.
use native.Mathlib.Omega.{arith}
use Rattle.listing_back.proofs.Spots.{records-first, records-more, records-stopped, records-done}
use Rattle.listing_back.proofs.stepping.read_records.Goals as goal

pub record_due-spot-requires : goal.record_due-spot-requires
record_due-spot-requires c =
    let s = c.loop-k.invariant.same in
    let z = c.loop-k.invariant.room c.if-spot-ne0.false in (c.if-spot-ne0.false, c.loop-k.invariant.inside, c.requires.1, omega arith)

pub loop-k-init : goal.loop-k-init
loop-k-init c = records-first _ _ _ _ _ _ _ _ c.requires.0

pub shape_of-words-then-spot-ne0 : goal.shape_of-words-then-spot-ne0
shape_of-words-then-spot-ne0 c = c.loop-k.invariant.same

pub returns-then-spot-ne0 : goal.returns-then-spot-ne0
returns-then-spot-ne0 c = records-stopped _ _ _ _ _ _ _ _ _ _ _ _ c.loop-k.invariant c.if-spot-ne0.true

pub overflow_add-i : goal.overflow_add-i
overflow_add-i c =
    let s = c.loop-k.invariant.room c.if-spot-ne0.false in omega arith

pub loop-k-preserved : goal.loop-k-preserved
loop-k-preserved c = records-more _ _ _ _ _ _ _ _ _ _ _ _ _ _ c.loop-k.invariant (omega arith)
    c.if-spot-ne0.false c.requires.2
    c.requires.6 c.record_due-spot.ensures

pub shape_of-words : goal.shape_of-words
shape_of-words c = c.loop-k.invariant.same

pub returns : goal.returns
returns c = records-done _ _ _ _ _ _ _ _ _ _ _ _ c.loop-k.invariant (omega arith)
