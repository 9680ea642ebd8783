-- `tables::hash::hash_of` meets its contract: a turn of its loop mixes one step (proofs/Hashes.antt).
use Rattle.tables.proofs.Hashes.{mixing-first, mixing-none, mixing-next, mixing-last}
use Rattle.tables.proofs.hash.hash_of.Goals as goal

pub returns-then-is_refused : goal.returns-then-is_refused
returns-then-is_refused c = mixing-none c.args.seed c.args.utf16 c.args.b.now _ c.is_refused.ensures c.if-is_refused.true

pub loop-at-init : goal.loop-at-init
loop-at-init c = mixing-first c.args.seed c.args.utf16 c.args.b.now _ c.is_refused.ensures c.if-is_refused.false

pub loop-at-preserved : goal.loop-at-preserved
loop-at-preserved c =
    mixing-next c.args.seed c.args.utf16 c.args.b.now _ _ _ _ _ _ c.loop-at.invariant c.loop-at-test.true c.next_of-t.ensures c.mix-s.ensures

pub returns : goal.returns
returns c = mixing-last c.args.seed c.args.utf16 c.args.b.now _ _ c.loop-at.invariant c.loop-at-test.false
