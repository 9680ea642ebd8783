-- `utf::ascii_text::put_copy` meets its contract. Invariant: the first i bytes stand in the buffer (`Copied`).
use Rattle.utf.proofs.AsciiText.{Copied}
use Rattle.utf.proofs.ascii_text.put_copy.Given as goal

abbrev pub invariant-loop-i : goal.invariant-loop-i
invariant-loop-i l = Copied l.s l.initial.out l.out l.i
