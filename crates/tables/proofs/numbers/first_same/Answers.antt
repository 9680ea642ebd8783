-- `tables::numbers::first_same` meets its contract: the first place of the same text, or none.
use mathlib.Core.Path.{sym, ◌∙◌}
use native.Mathlib.Omega.{arith}
use Rattle.system_types.specs.Names.{lends}
use Rattle.text.specs.Content.{same_name}
use Rattle.tables.specs.Inner.Numbered.{met_at}
use Rattle.tables.proofs.Numbering.{first-met, first-own, more-false}
use Rattle.tables.proofs.numbers.first_same.Goals as goal

pub returns-then-is_met : goal.returns-then-is_met
returns-then-is_met c =
    let a = c.args in let lent = lends a.names.now a.area.now in
    first-met a.h a.t.now lent a.numbers.now c.requires.3 a.own.0 c.loop-q.q (omega arith) c.is_met.ensures c.if-is_met.true

pub loop-q-preserved : goal.loop-q-preserved
loop-q-preserved c =
    let a = c.args in
    more-false (λ k. met_at (same_name a.h a.t.now (lends a.names.now a.area.now)) a.numbers.now a.own.0 k)
    c.loop-q.q c.loop-q.invariant (sym c.is_met.ensures ∙ c.if-is_met.false)

pub returns : goal.returns
returns c =
    let a = c.args in
    first-own a.h a.t.now (lends a.names.now a.area.now) a.numbers.now c.requires.3 a.own.0 c.requires.5 c.requires.4
    (λ q l. c.loop-q.invariant q (omega arith))
