-- `listed::read_to_list` meets its contract: what is above the limit is refused and leaves zeros, all else is read. proofs/Lists.antt.
use mathlib.Core.Path.{refl}
use Rattle.listed.proofs.Lists.{refused-unread, read-whole}
use Rattle.listed.proofs.read_to_list.Goals as goal

pub returns-then-too_long : goal.returns-then-too_long
returns-then-too_long c =
    refused-unread _ _ _ _ _ _ _ c.if-too_long.true c.zero_all.ensures c.zero_all-then-too_long.ensures refl refl

pub returns : goal.returns
returns c = read-whole _ _ _ _ _ _ _ c.if-too_long.false c.read_listed.ensures
