-- `stored::load` meets its contract: one word more, and then the places behind them.
use Rattle.std.proofs.Common.{arith}
use Rattle.stored.proofs.Laws.{filled_none, filled-step, filled-whole}
use Rattle.stored.proofs.load.Goals as goal

pub loop-i-init : goal.loop-i-init
loop-i-init c = filled_none _ _

pub loop-i-preserved : goal.loop-i-preserved
loop-i-preserved c = filled-step _ _ c.loop-i.i c.loop-i.invariant c.loop-i-test.true c.word.ensures

pub returns-clause-table : goal.returns-clause-table
returns-clause-table c = filled-whole _ c.args.table.now c.min-n.result c.loop-i.i c.loop-i.invariant (omega arith) (omega arith)
