-- `utf::ascii_text::put_copy` meets its contract (Invariants.antt).
use mathlib.Core.Path.{refl}
use native.Mathlib.Omega.{arith}
use Rattle.utf.proofs.AsciiText.{copied}
use Rattle.utf.proofs.ascii_text.put_copy.Goals as goal

pub loop-i-preserved : goal.loop-i-preserved
loop-i-preserved c = copied _ _ _ _ _ c.loop-i.invariant (omega arith) (omega arith) refl
