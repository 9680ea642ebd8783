-- `utf::ascii_text::put_lows` meets its contract (Invariants.antt).
use native.Mathlib.Omega.{arith}
use Rattle.utf.proofs.AsciiText.{copied_low}
use Rattle.utf.proofs.ascii_text.put_lows.Goals as goal

pub loop-i-preserved : goal.loop-i-preserved
loop-i-preserved c = copied_low _ _ _ _ c.loop-i.invariant (omega arith) (omega arith)
