-- `first_value::find_value` meets its contract: it stops at the first attribute with the name.
-- Invariant: none before k has it.
use native.Mathlib.Nat.{sub-zero}
use native.Mathlib.Omega.{arith}
use mathlib.Core.Path.{sym, ◌∙◌}
use Rattle.system_types.specs.Names.{lends}
use Rattle.first_value.proofs.Search.{find_value-end, find_value-found, find_value-next}
use Rattle.first_value.proofs.find_value.Goals as goal

pub loop-k-init : goal.loop-k-init
loop-k-init c = sym (rw sub-zero)

pub returns-then-is_named : goal.returns-then-is_named
returns-then-is_named c =
    let a = c.args in
    let l = c.loop-k in
    sym
    (l.invariant ∙ find_value-found a.h a.t.now (lends a.names.now a.area.now) a.name.now a.count a.attributes.now l.k
    (omega arith) c.attribute_place-at.ensures c.is_named.ensures c.if-is_named.true c.found.ensures)

pub loop-k-preserved : goal.loop-k-preserved
loop-k-preserved c =
    let a = c.args in
    let l = c.loop-k in
    let e =
    find_value-next a.h a.t.now (lends a.names.now a.area.now) a.name.now a.count a.attributes.now l.k
    (omega arith) c.attribute_place-at.ensures c.is_named.ensures c.if-is_named.false in
    l.invariant ∙ e

pub returns : goal.returns
returns c =
    let a = c.args in
    let l = c.loop-k in
    sym
    (l.invariant ∙ find_value-end a.h a.t.now (lends a.names.now a.area.now) a.name.now a.count a.attributes.now l.k
    (omega arith))
