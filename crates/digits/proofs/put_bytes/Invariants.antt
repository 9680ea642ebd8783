-- `digits::put_bytes` meets its contract. Invariant: the bytes passed so far are written.
use Rattle.std.proofs.Common.{take}
use Rattle.digits.specs.Written.{Wrote}
use Rattle.digits.proofs.put_bytes.Given as goal

abbrev pub invariant-loop-b : goal.invariant-loop-b
invariant-loop-b l = Wrote l.b-index l.p (take l.b-index l.text) l.initial.out l.at l.out
