-- `tables::links::link` meets its contract: the record hangs itself at the end of its way, and the first hangs nowhere (proofs/Ways.antt).
use native.Mathlib.Nat.{pos_of_ne-zero}
use Rattle.tables.proofs.Ways.{hung-first, hung-more}
use Rattle.tables.proofs.links.link.Goals as goal

pub returns-then-n-eq0 : goal.returns-then-n-eq0
returns-then-n-eq0 c = let a = c.args in λ _ keys e _. hung-first a.links.now a.n a.key c.requires.0 c.if-n-eq0.true keys e

pub returns : goal.returns
returns c =
    let a = c.args in
    λ ends keys e u. hung-more a.links.now a.n a.key c.requires.0 a.at a.left (ends (pos_of_ne-zero c.if-n-eq0.false)) keys e u
