-- `system_types::all_keep` meets its contract. Invariant: if the entries seen keep what is asked at the end, those left say what all
-- say (proofs/Pass.antt, `Seen`).
use Rattle.system_types.proofs.Pass.{Seen}
use Rattle.system_types.proofs.all_keep.Given as goal

abbrev pub invariant-loop-k : goal.invariant-loop-k
invariant-loop-k l = Seen l.area l.names l.k l.falls l.last l.most
