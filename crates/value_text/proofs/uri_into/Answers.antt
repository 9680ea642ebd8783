-- `value_text::uri_into` meets its contract.
use Rattle.value_text.proofs.Front.{leads-wrote, tells-text}
use Rattle.value_text.proofs.uri_into.Goals as goal

pub returns : goal.returns
returns c = tells-text (leads-wrote c.put_bytes-n.ensures)
