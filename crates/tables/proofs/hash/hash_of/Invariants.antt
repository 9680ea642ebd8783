-- `tables::hash::hash_of` meets its contract: a turn of its loop mixes one step (proofs/Hashes.antt).
use Prim.Native.Nat.{◌-◌}
use lib.ListN.{length}
use Rattle.tables.proofs.Hashes.{Mixing}
use Rattle.tables.proofs.hash.hash_of.Given as goal

abbrev pub invariant-loop-at : goal.invariant-loop-at
invariant-loop-at l = Mixing l.seed l.utf16 l.b l.at l.s

abbrev pub decreases-loop-at : goal.decreases-loop-at
decreases-loop-at l = length l.b - l.at
