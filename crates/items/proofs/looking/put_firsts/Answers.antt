-- `items::looking::put_firsts` meets its contract. Invariant: the first item of each place, of those from k on.
use native.Mathlib.Omega.{arith}
use Rattle.items.proofs.RunLaws.{place-lt}
use Rattle.items.proofs.looking.put_firsts.Goals as goal

pub offset_bounds-firsts-place : goal.offset_bounds-firsts-place
offset_bounds-firsts-place c = omega (arith, c.place_of-place.ensures, place-lt c.part_of.result.now)

pub bounds-firsts-place : goal.bounds-firsts-place
bounds-firsts-place c = omega (arith, c.place_of-place.ensures, place-lt c.part_of.result.now, c.loop-k.invariant.1.long)
