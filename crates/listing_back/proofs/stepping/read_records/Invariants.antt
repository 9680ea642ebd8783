-- `listing_back::stepping::read_records` meets its contract. Invariant: the records before the k-th are read.
use Rattle.listing_back.proofs.Spots.{RecordsSoFar}
use Rattle.listing_back.proofs.stepping.read_records.Given as goal

abbrev pub invariant-loop-k : goal.invariant-loop-k
invariant-loop-k l = RecordsSoFar l.text l.initial.spot l.line l.n l.width l.count l.full l.initial.words l.k l.i l.spot l.words
