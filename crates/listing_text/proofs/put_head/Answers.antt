-- `listing_text::put_head` meets its contract: seven lines as three fields, three fields and one.
use native.Mathlib.Omega.{arith}
use Rattle.digits.proofs.Written.{wrote-more, wrote-append}
use Rattle.listing_text.proofs.Laws.{lines_text-seven}
use Rattle.listing_text.proofs.put_head.Goals as goal

pub returns : goal.returns
returns c =
    let third = c in
    let second = third in
    let first = second in
    wrote-more (wrote-append first.put_three-a.ensures (wrote-append second.put_three-b.ensures third.put_field.ensures))
    (lines_text-seven _ _ _ _ _ _ _)
    (omega arith)
