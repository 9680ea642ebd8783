-- `listed::list_into` meets its contract: what was read is printed. proofs/Lists.antt.
use Rattle.listed.proofs.Lists.{lists-read}
use Rattle.listed.proofs.list_into.Goals as goal

pub returns : goal.returns
returns c =
    lists-read _ _ _ _ _ _ _ _ _ _ _ c.read_to_list-read.ensures c.read_numbers.ensures c.listing_into.ensures
