-- `digits::put_signed` meets its contract: the number, or `-` and the number without its sign.
use Rattle.std.proofs.Common.{arith, rules}
use mir.Syntax.{w32}
use mir.Val.{SFits}
use Rattle.digits.proofs.Laws.{signed_text-minus, signed_text-plain}
use Rattle.digits.proofs.Written.{wrote-more, wrote-append}
use Rattle.digits.proofs.put_signed.Goals as goal
use Rattle.digits.proofs.put_signed.Goals.{then-z-lt0, else-z-lt0}

pub returns : goal.returns
returns c =
    let fits : SFits w32 c.cast_signed-z.result = search rules in
    elim c.if-z-lt0.branch [
      | then-z-lt0 w ↦
          wrote-more (wrote-append w.put_byte-at.ensures (rw (w.at-is, w.out-is) at c.put_word.ensures))
          (signed_text-minus _ c.cast_signed-z.ensures fits w.if-z-lt0.true c.unsigned_abs.ensures.value)
          (omega arith)
      | else-z-lt0 w ↦
          wrote-more (rw (w.at-is, w.out-is) at c.put_word.ensures)
          (signed_text-plain _ c.cast_signed-z.ensures fits w.if-z-lt0.false c.unsigned_abs.ensures.value)
          (omega arith)
    ]
