-- `listing_text::put_note` meets its contract: a line as three fields and one.
use native.Mathlib.Omega.{arith}
use Rattle.digits.proofs.Written.{wrote-more, wrote-append}
use Rattle.listing_text.proofs.Laws.{line_text-four}
use Rattle.listing_text.proofs.put_note.Goals as goal

pub returns : goal.returns
returns c =
    let second = c in
    let first = second in
    wrote-more (wrote-append first.put_three-a.ensures second.put_field.ensures) (line_text-four _ _ _ _) (omega arith)
