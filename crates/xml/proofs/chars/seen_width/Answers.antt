-- `xml::chars::seen_width` meets its contract: a byte of ASCII is its own value.
use mathlib.Core.Path.{sym, ◌∙◌}
use Rattle.xml.proofs.Names.{inside-sort, seen-ascii}
use native.Mathlib.Omega.{arith}
use Rattle.xml.proofs.chars.seen_width.Goals as goal

pub returns-in-Some : goal.returns-in-Some
returns-in-Some c =
    let k = c.in-Some.sort in
    let a = c.in-Some.ensures.ascii in
    let n = inside-sort k (sym c.eq.ensures ∙ c.if-eq.false) in
    record { seen = seen-ascii _ _ c.requires.1 a.0 (λ z. n (a.1 ∙ z)); least = omega arith; most = omega (arith, c.requires.1) }
