-- `many_texts::put_texts` meets its contract. Invariant: the first k texts and answers (`Done`).
use lib.ListN.{length}
use Rattle.system_types.specs.Names.{lends}
use Rattle.many_texts.specs.Inner.Going.{Done, index_value}
use Rattle.many_texts.proofs.put_texts.Given as goal

abbrev pub invariant-loop-k : goal.invariant-loop-k
invariant-loop-k l = Done (index_value l.h l.t (lends l.names l.area) l.indices) (length l.initial.out) (length l.initial.answers) l.k l.at l.out l.answers
