-- `round_up::kinds_in` meets its contract. Invariant: the counts are those of the first i notes.
use Rattle.round_up.specs.Kinds.{kinds_from, how_many, tally}
use mathlib.Core.Path.{refl, ◌∙◌}
use native.Mathlib.Omega.{arith}
use Rattle.round_up.specs.RoundUp.{kinds}
use Rattle.round_up.proofs.Tallies.{kinds_from-length, tally-le, kinds-turn}
use Rattle.round_up.proofs.kinds_in.Goals as goal

pub loop-i-init : goal.loop-i-init
unfolding tally how_many kinds_from
loop-i-init c = refl

pub count_kind-requires : goal.count_kind-requires
count_kind-requires c =
    let l = c.loop-i in
    let words = c.args.words.now in
    λ k. rw l.invariant (omega (arith, tally-le kinds 0 k (kinds_from l.i words), kinds_from-length l.i words))

pub loop-i-preserved : goal.loop-i-preserved
loop-i-preserved c =
    let l = c.loop-i in
    let words = c.args.words.now in
    c.count_kind.ensures ∙ rw l.invariant (kinds-turn words l.i)
