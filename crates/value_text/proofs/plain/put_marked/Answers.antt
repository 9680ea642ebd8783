-- `value_text::plain::put_marked` meets its contract: the mark, then the digits.
use mathlib.Core.Path.{refl}
use native.Mathlib.Omega.{arith}
use Rattle.digits.proofs.Written.{wrote-more, wrote-append}
use Rattle.value_text.proofs.plain.put_marked.Goals as goal

pub returns : goal.returns
returns c = wrote-more (wrote-append c.put_byte-at.ensures c.put_hex.ensures) refl
    (omega arith)
