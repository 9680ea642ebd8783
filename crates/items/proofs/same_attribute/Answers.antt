-- `items::same_attribute` meets its contract: names at one place are one (`same_parts`); else the bytes of both.
use Rattle.items.proofs.RunLaws.{same_parts}
use Rattle.items.proofs.same_attribute.Goals as goal

pub returns-then-i-j : goal.returns-then-i-j
returns-then-i-j c = same_parts c.args.area.now c.args.i
    c.args.j c.if-i-j.true
