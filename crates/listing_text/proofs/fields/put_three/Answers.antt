-- `listing_text::fields::put_three` meets its contract: three fields, one after the other.
use mathlib.Core.Path.{refl}
use native.Mathlib.Omega.{arith}
use Rattle.digits.proofs.Written.{wrote-more, wrote-append}
use Rattle.listing_text.proofs.fields.put_three.Goals as goal

pub returns : goal.returns
returns c =
    let third = c in
    let second = third in
    let first = second in
    wrote-more (wrote-append first.put_field-a.ensures (wrote-append second.put_field-b.ensures third.put_field.ensures)) refl (omega arith)
