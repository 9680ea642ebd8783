-- `listing_text::put_listing` meets its contract: head, nodes, attributes and notes, one after the other.
use native.Mathlib.Nat.{le_refl}
use Rattle.digits.proofs.Written.{wrote-more, wrote-append}
use Rattle.listing_text.proofs.Whole.{listing_text-parts}
use Rattle.listing_text.proofs.put_listing.Goals as goal

pub returns : goal.returns
returns c =
    let fourth = c in
    let third = fourth in
    let second = third in
    let first = second in
    let start = first in
    let a = start.args in
    wrote-more
    (wrote-append first.put_head-a.ensures
    (wrote-append second.put_nodes-b.ensures (wrote-append third.put_attributes-c.ensures fourth.put_notes.ensures)))
    (listing_text-parts a.cap a.n a.nodes.now a.attributes.now a.notes)
    (le_refl _)
