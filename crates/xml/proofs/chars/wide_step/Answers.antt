-- `xml::chars::wide_step` meets its contract: bytes that tell, or what is decoded.
use mathlib.Core.Path.{sym, ◌∙◌}
use Rattle.xml.proofs.Names.{outside-sort, inside-sort, went-told, stuck-told}
use Rattle.xml.proofs.chars.wide_step.Goals as goal

pub returns-then-eq-clause-none : goal.returns-then-eq-clause-none
returns-then-eq-clause-none c =
    let t = c.char_at-t in
    λ z. stuck-told _ _ _ _ c.requires t.ensures (outside-sort t.result.sort (sym c.eq.ensures ∙ c.if-eq.true))

pub returns-clause-some : goal.returns-clause-some
returns-clause-some c =
    let t = c.char_at-t in
    went-told _ _ _ _ c.requires t.ensures (inside-sort t.result.sort (sym c.eq.ensures ∙ c.if-eq.false))
