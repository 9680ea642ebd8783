-- `c_api::relisting::axml_read_listing` meets its contract: the numbers of what `read_listing` answered, and its tables.
use Rattle.c_api.proofs.Relists.{relists-words}
use Rattle.c_api.proofs.relisting.axml_read_listing.Goals as goal

pub returns : goal.returns
returns c = relists-words c.read_listing-read.ensures _ _ c.read_numbers.ensures c.relisted_of.ensures
