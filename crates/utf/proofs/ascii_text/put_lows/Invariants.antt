-- `utf::ascii_text::put_lows` meets its contract. Invariant: the low bytes of the first i units stand in the buffer (`Copied`).
use Rattle.utf.specs.Inner.StepRuns.{low_bytes}
use Rattle.utf.proofs.AsciiText.{Copied}
use Rattle.utf.proofs.ascii_text.put_lows.Given as goal

abbrev pub invariant-loop-i : goal.invariant-loop-i
invariant-loop-i l = Copied (low_bytes l.s) l.initial.out l.out l.i
