-- `round_up::read_share` meets its contract. Invariant: the cells of the first k kinds are laid down.
use mathlib.Core.Path.{◌≡◌}
use Rattle.round_up.specs.Inner.Turns.{laid_of}
use Rattle.round_up.proofs.read_share.Given as goal

abbrev pub invariant-loop-k : goal.invariant-loop-k
invariant-loop-k l = l.share ≡ laid_of l.class l.fn.kinds l.k
