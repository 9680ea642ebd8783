-- `listing_text::fields::put_field` meets its contract: key, `=`, number and the byte behind it, one after the other.
use mathlib.Core.Path.{sym}
use mathlib.Core.List.{[], ◌∷◌, append_assoc}
use native.Mathlib.Omega.{arith}
use Rattle.digits.specs.Digits.{decimal}
use Rattle.listing_text.specs.Listing.{field_text}
use Rattle.digits.proofs.Written.{wrote-more, wrote-append}
use Rattle.listing_text.proofs.fields.put_field.Goals as goal

pub returns : goal.returns
unfolding field_text
returns c =
    let fourth = c in
    let third = fourth in
    let second = third in
    let first = second in
    let start = first in
    let a = start.args in
    wrote-more
    (wrote-append first.put_bytes-a.ensures
    (wrote-append second.put_byte-b.ensures (wrote-append third.put_decimal-c.ensures fourth.put_byte.ensures)))
    (sym (append_assoc a.key.now (61 ∷ decimal a.number) (a.end ∷ [])))
    (omega arith)
