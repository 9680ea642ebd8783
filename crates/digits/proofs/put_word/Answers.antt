-- `digits::put_word` meets its contract: ten digits are enough for a number of 32 bits.
use Rattle.std.proofs.Common.{arith}
use Rattle.digits.proofs.Decimal.{decimal-word}
use Rattle.digits.proofs.Written.{wrote-within}
use Rattle.digits.proofs.put_word.Goals as goal

pub returns : goal.returns
returns c = wrote-within (rw c.from.ensures at c.put_decimal.ensures) (decimal-word c.args.n (omega arith))
