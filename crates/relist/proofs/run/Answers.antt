-- `relist::run` meets its contract: what the reader had is judged whole, or told to be longer than any listing.
use Rattle.relist.proofs.Writing.{run-full, run-whole}
use Rattle.relist.proofs.run.Goals as goal

pub returns-then-text-n : goal.returns-then-text-n
returns-then-text-n g c =
    run-full _ _ _ _ _ _ _ _ _ _ c.read_in.auto.room c.in_ok-n.ensures.bound.0 c.in_ok-n.ensures.bytes c.in_ok-n.ensures.end _ c.if-text-n.true

pub returns : goal.returns
returns g c =
    run-whole _ _ _ _ _ _ _ _ _ _ c.read_in.auto.room c.in_ok-n.ensures.bound.0 c.in_ok-n.ensures.bytes c.in_ok-n.ensures.end _ c.if-text-n.false c.relist.ensures
