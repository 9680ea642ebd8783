-- `items::looking::place_of` meets its contract: no bytes (`place_none`), or some (`place-some`).
use mathlib.Core.Path.{sym}
use Rattle.items.proofs.RunLaws.{place_none, place-some}
use Rattle.items.proofs.looking.place_of.Goals as goal

pub returns-then-n-lt1 : goal.returns-then-n-lt1
returns-then-n-lt1 c = sym (place_none c.args.name.now c.if-n-lt1.true)

pub returns : goal.returns
returns c = sym (place-some c.args.name.now c.if-n-lt1.false)
