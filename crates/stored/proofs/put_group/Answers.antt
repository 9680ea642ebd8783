-- `stored::put_group` meets its contract: 25 bytes take any text of a group.
use Rattle.std.proofs.Common.{arith}
use Rattle.stored.proofs.Laws.{leads_of_wrote}
use Rattle.stored.proofs.put_group.Goals as goal

pub returns : goal.returns
returns c = leads_of_wrote c.put_text.ensures (omega arith)
