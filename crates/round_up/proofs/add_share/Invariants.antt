-- `round_up::add_share` meets its contract. Invariant: those before i are summed, and the others stand as they were.
use Rattle.round_up.proofs.Laws.{Adding}
use Rattle.round_up.proofs.add_share.Given as goal

abbrev pub invariant-loop-i : goal.invariant-loop-i
invariant-loop-i l = Adding l.initial.counts l.share l.counts l.i
