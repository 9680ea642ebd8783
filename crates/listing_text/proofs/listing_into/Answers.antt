-- `listing_text::listing_into` meets its contract: a text that fits, with zeros behind it, and one that does not. The buffer: proofs/Whole.antt.
use Rattle.listing_text.proofs.Whole.{printed-whole, printed-short}
use Rattle.listing_text.proofs.listing_into.Goals as goal

pub returns-then-out-end : goal.returns-then-out-end
returns-then-out-end c =
    let zeros = c in
    let test = zeros in
    let text = test in
    printed-short text.put_listing-end.ensures _ test.if-out-end.true zeros.zero.ensures

pub returns : goal.returns
returns c =
    let zeros = c in
    let test = zeros in
    let text = test in
    printed-whole text.put_listing-end.ensures _ test.if-out-end.false zeros.zero-2.ensures
