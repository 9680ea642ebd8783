-- `relist::judge` meets its contract: an answer of the reader's own, or a listing, which is printed.
use Rattle.std.proofs.Common.{sym, ◌∙◌}
use Rattle.relist.proofs.Judging.{judges-own, judges-listing}
use Rattle.relist.proofs.judge.Goals as goal

pub returns-then-is_own : goal.returns-then-is_own
returns-then-is_own c = judges-own c.read_listing-read.ensures _ c.read_numbers-n.ensures (sym c.is_own.ensures ∙ c.if-is_own.true)

pub returns : goal.returns
returns c = rw c.unwrap_or.ensures
    (judges-listing c.read_listing-read.ensures _ c.read_numbers-n.ensures _ _ _ _ c.requires.0 c.requires.1 c.notes_of.ensures
    c.listing_into-printed.ensures (sym c.is_own.ensures ∙ c.if-is_own.false))
