-- `digits::put_hex` meets its contract: one digit more is written behind those that are.
use Rattle.std.proofs.Common.{sym, arith}
use Rattle.digits.proofs.Laws.{hex_digits-none, hex_digits-next}
use Rattle.digits.proofs.Written.{wrote-append, wrote-more, wrote_none}
use Rattle.digits.proofs.put_hex.Goals as goal

pub loop-k-init : goal.loop-k-init
loop-k-init c = wrote-more (wrote_none 0 _ _) (sym (hex_digits-none _)) (omega arith)

pub loop-k-preserved : goal.loop-k-preserved
loop-k-preserved c =
    wrote-more (wrote-append c.loop-k.invariant c.put_byte-at.ensures)
    (hex_digits-next c.args.n c.loop-k.k _ c.loop-k-test.true (omega arith) c.hex_digit.ensures)
    (omega arith)
