-- `digits::put_hex` meets its contract. Invariant: the digits above the last k are written.
use Rattle.std.proofs.Common.{◌-◌, ◌*◌, ◌/◌, ◌^◌}
use Rattle.digits.specs.Digits.{hex_digits}
use Rattle.digits.specs.Written.{Wrote}
use Rattle.digits.proofs.put_hex.Given as goal

abbrev pub invariant-loop-k : goal.invariant-loop-k
invariant-loop-k l = Wrote (8 - l.k) l.p (hex_digits (8 - l.k) (l.n / 2 ^ (4 * l.k))) l.initial.out l.at l.out
