-- `xml::chars::wide_width` meets its contract, by two bytes or three.
use mathlib.Core.Path.{sym, ◌∙◌}
use Rattle.xml.proofs.SeenChars.{seen-pair, seen-triple}
use native.Mathlib.Omega.{arith}
use Rattle.xml.proofs.chars.wide_width.Goals as goal

pub returns-then-is_pair : goal.returns-then-is_pair
returns-then-is_pair c =
    let a = c.args in
    record { seen = seen-pair a.s.now a.at (omega arith) (sym c.is_pair.ensures ∙ c.if-is_pair.true); least = omega arith; most = omega arith }

pub returns-then-is_triple : goal.returns-then-is_triple
returns-then-is_triple c =
    let a = c.args in
    record { seen = seen-triple a.s.now a.at (omega arith) (sym c.is_triple.ensures ∙ c.if-is_triple.true); least = omega arith; most = omega arith }
