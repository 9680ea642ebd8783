-- `main_activities::tests::find_from` meets its contract: it stops at the first attribute with the name.
-- Invariant: none before i has it.
use mathlib.Core.Path.{sym, ◌∙◌}
use native.Mathlib.Omega.{arith}
use Rattle.system_types.specs.Names.{lends}
use native.Mathlib.Nat.{sub-zero, add-zero}
use Rattle.main_activities.specs.Activities.{tree_of}
use Rattle.main_activities.proofs.Laws.{from_end, from_found, from_next}
use Rattle.main_activities.proofs.tests.find_from.Goals as goal

pub loop-i-init : goal.loop-i-init
loop-i-init c = rw (sub-zero, add-zero)

pub overflow_add-j : goal.overflow_add-j
overflow_add-j c = omega (arith, c.requires.1)

pub is_named-requires : goal.is_named-requires
is_named-requires c = c.requires.0

pub returns-then-is_named : goal.returns-then-is_named
returns-then-is_named c =
    let a = c.args in
    let l = c.loop-i in
    let w = tree_of a.h a.t.now (lends a.names.now a.area.now) a.items.now a.item_area.now a.nodes.now
    a.attributes.now a.count in
    sym (l.invariant ∙ from_found w a.name.now a.first a.number l.i (omega arith)
    (rw (← c.attribute_place-at.ensures) c.is_named.ensures) c.if-is_named.true)

pub loop-i-preserved : goal.loop-i-preserved
loop-i-preserved c =
    let a = c.args in
    let l = c.loop-i in
    let w = tree_of a.h a.t.now (lends a.names.now a.area.now) a.items.now a.item_area.now a.nodes.now
    a.attributes.now a.count in
    l.invariant ∙ from_next w a.name.now a.first a.number l.i (omega arith)
    (rw (← c.attribute_place-at.ensures) c.is_named.ensures) c.if-is_named.false

pub returns : goal.returns
returns c =
    let a = c.args in
    let l = c.loop-i in
    let w = tree_of a.h a.t.now (lends a.names.now a.area.now) a.items.now a.item_area.now a.nodes.now
    a.attributes.now a.count in
    sym (l.invariant ∙ from_end w a.name.now a.first a.number l.i (omega arith))
