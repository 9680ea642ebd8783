-- `utf::span::is_ascii` meets its contract. Invariant: the greatest byte so far and the bytes left say what all the bytes
-- say (proofs/Ascii.antt).
use mathlib.Core.Path.{◌≡◌}
use lib.ListN.{drop}
use Rattle.utf.specs.Plain.{is_ascii}
use Rattle.utf.proofs.Ascii.{seen_ascii}
use Rattle.utf.proofs.span.is_ascii.Given as goal

abbrev pub invariant-loop-b : goal.invariant-loop-b
invariant-loop-b l = seen_ascii l.most (drop l.b-index l.s) ≡ is_ascii l.s
