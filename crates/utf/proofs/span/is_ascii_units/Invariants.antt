-- `utf::span::is_ascii_units` meets its contract. Invariant: whole units are left, and the greatest low byte and the greatest high byte so far say
-- with them what all the units say (`UnitsLeft`, proofs/AsciiText.antt).
use Rattle.std.specs.Slice.Iter.{chunks_exact_rest, chunks_exact_size}
use Rattle.utf.proofs.AsciiText.{UnitsLeft}
use Rattle.utf.proofs.span.is_ascii_units.Given as goal

abbrev pub invariant-loop-unit : goal.invariant-loop-unit
invariant-loop-unit l = UnitsLeft l.low l.high (chunks_exact_size l.unit-iterator) (chunks_exact_rest l.unit-iterator) l.s
