-- `digits::put_bytes` meets its contract: one byte more is written behind those that are.
use Rattle.std.proofs.Common.{sym, arith}
use Rattle.std.proofs.lemmas.List.{take_more}
use Rattle.digits.proofs.Written.{wrote-append, wrote-more, wrote_none}
use Rattle.digits.proofs.put_bytes.Goals as goal

pub loop-b-init : goal.loop-b-init
loop-b-init c = wrote_none 0 _ _

pub loop-b-preserved : goal.loop-b-preserved
loop-b-preserved c =
    wrote-more (wrote-append c.loop-b.invariant c.put_byte-at.ensures) (sym (take_more c.args.text.now c.loop-b.b-index 0 c.loop-b-test.true)) (omega arith)
