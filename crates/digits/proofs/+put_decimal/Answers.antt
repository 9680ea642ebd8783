-- `digits::put_decimal` meets its contract: one digit, or the digits of a tenth and then the last.
use Rattle.std.proofs.Common.{sym, arith}
use Rattle.digits.proofs.Laws.{digits_lt, decimal-le}
use Rattle.digits.proofs.Decimal.{decimal-step}
use Rattle.digits.proofs.Written.{wrote-more, wrote-append, wrote-within}
use Rattle.digits.proofs.+put_decimal.Goals as goal
use Rattle.digits.proofs.+put_decimal.Goals.{then-n-lt10, else-n-lt10}

pub returns : goal.returns
returns t c =
    elim c.if-n-lt10.branch [
      | then-n-lt10 w ↦ wrote-more (rw (w.at-is, w.out-is) at c.put_byte.ensures) (sym (digits_lt 19 c.args.n (omega arith))) (omega arith)
      | else-n-lt10 w ↦
          wrote-within
          (wrote-more {n = 21} (wrote-append w.put_decimal-at.ensures (rw (w.at-is, w.out-is) at c.put_byte.ensures))
          (sym (decimal-step c.args.n (omega arith) (omega arith))) (omega arith))
          (decimal-le c.args.n)
    ]
