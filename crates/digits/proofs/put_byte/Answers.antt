-- `digits::put_byte` meets its contract: a place within the buffer is written, and past its end nothing is.
use Rattle.std.proofs.Common.{rules, sym, ◌∙◌}
use lib.Seq.{set_out}
use Rattle.digits.specs.Written.{written}
use Rattle.digits.proofs.put_byte.Goals as goal
use Rattle.digits.proofs.put_byte.Goals.{then-p-out, else-p-out}

pub returns : goal.returns
unfolding written
returns c =
    record {
      place = search rules;
      near = search rules;
      out = elim c.if-p-out.branch [ then-p-out w ↦ w.out-is | else-p-out w ↦ w.out-is ∙ sym (set_out _ _ _ w.if-p-out.false) ];
    }
