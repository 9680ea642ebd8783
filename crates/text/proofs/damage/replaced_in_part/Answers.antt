-- `text::damage::replaced_in_part` meets its contract: no more are replaced than there are bytes.
use native.Mathlib.Omega.{arith}
use Rattle.utf.proofs.BadSteps.{replaced_count-le}
use Rattle.text.proofs.damage.replaced_in_part.Goals as goal

pub overflow_cast-result : goal.overflow_cast-result
overflow_cast-result c =
    let s = c in
    omega (arith, c.replaced_of.ensures, s.requires, replaced_count-le s.args.utf16 s.args.s.now)
