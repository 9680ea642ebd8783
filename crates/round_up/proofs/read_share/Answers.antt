-- `round_up::read_share` meets its contract. Invariant: the cells of the first k kinds are laid down.
use mathlib.Core.Path.{◌≡◌, refl}
use native.Mathlib.Omega.{arith}
use lib.ListN.{length}
use Rattle.round_up.specs.RoundUp.{kinds}
use Rattle.round_up.proofs.Shares.{laid-turn}
use borrow.Author.Rules.{rules}
use Rattle.round_up.proofs.read_share.Goals as goal

pub loop-k-preserved : goal.loop-k-preserved
loop-k-preserved c =
    let l = c.loop-k in
    let a = c.args in
    let whole : length a.kinds ≡ kinds = search rules in
    rw l.invariant (laid-turn a.class _ c.requires whole l.k _ (omega arith) refl)
