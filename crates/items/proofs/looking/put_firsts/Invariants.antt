-- `items::looking::put_firsts` meets its contract. Invariant: the first item of each place, of those from k on.
use Prim.Native.Nat.{◌≤◌, ◌/◌}
use lib.ListN.{length}
use Rattle.records.specs.Words.{item_width}
use Rattle.items.proofs.RunLaws.{FirstsFrom}
use Rattle.items.proofs.looking.put_firsts.Given as goal

abbrev pub invariant-loop-k : goal.invariant-loop-k
invariant-loop-k l = (l.k ≤ length l.items / item_width) × FirstsFrom l.area l.items l.k l.firsts
