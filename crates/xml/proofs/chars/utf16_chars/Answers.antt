-- `xml::chars::utf16_chars` meets its contract. Invariant: what was passed is chars (`Passed`). Measure: the bytes left before `to`.
use mathlib.Core.Path.{sym, ◌∙◌}
use Rattle.xml.proofs.Names.{outside-sort, inside-sort, passed_on, passed-more, reached-none}
use native.Mathlib.Omega.{arith}
use Rattle.xml.proofs.chars.utf16_chars.Goals as goal

pub returns-then-eq : goal.returns-then-eq
returns-then-eq c =
    let u = c.char_at-u in
    reached-none _ _ _ _ _ c.loop-i.invariant _ _ (omega (arith, c.loop-i-test.true, c.requires)) u.ensures
    (outside-sort u.result.sort (sym c.eq.ensures ∙ c.if-eq.true))

pub loop-i-preserved : goal.loop-i-preserved
loop-i-preserved c =
    let u = c.char_at-u in
    let more = passed-more _ _ _ _ _ _ c.loop-i.invariant (omega (arith, c.loop-i-test.true, c.requires)) u.ensures
    (inside-sort u.result.sort (sym c.eq.ensures ∙ c.if-eq.false)) in
    passed_on _ _ _ _ _ more c.units_run-i-in-loop-i.ensures.passed
