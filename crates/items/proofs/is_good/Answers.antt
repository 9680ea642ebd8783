-- `items::is_good` meets its contract: the parts of the rule in their order.
use mathlib.Core.Path.{sym, ◌∙◌}
use Rattle.items.specs.Inner.Back.{back_to}
use Rattle.items.proofs.Laws.{is_good-attribute, is_good-name, is_good-kind, is_good-stands}
use Rattle.items.proofs.is_good.Goals as goal

pub returns-then-not-is_name : goal.returns-then-not-is_name
returns-then-not-is_name c =
    let a = c.args in
    sym (is_good-attribute a.area.now (back_to a.items.now a.k) a.i (sym c.is_name.ensures ∙ c.if-not-is_name.true))

pub returns-then-not-is_name-2 : goal.returns-then-not-is_name-2
returns-then-not-is_name-2 c =
    let a = c.args in
    let p = sym c.is_name.ensures ∙ c.if-not-is_name.false in
    sym (is_good-name a.area.now (back_to a.items.now a.k) a.i p (sym c.is_name-2.ensures ∙ c.if-not-is_name-2.true))

pub returns-then-i-gt1 : goal.returns-then-i-gt1
returns-then-i-gt1 c =
    let a = c.args in
    let p = sym c.is_name.ensures ∙ c.if-not-is_name.false in
    let q = sym c.is_name-2.ensures ∙ c.if-not-is_name-2.false in
    sym (is_good-kind a.area.now (back_to a.items.now a.k) a.i p q c.if-i-gt1.true)

pub returns : goal.returns
returns c =
    let a = c.args in
    let p = sym c.is_name.ensures ∙ c.if-not-is_name.false in
    let q = sym c.is_name-2.ensures ∙ c.if-not-is_name-2.false in
    c.may_stand.ensures ∙ sym (is_good-stands a.area.now (back_to a.items.now a.k) a.i p q c.if-i-gt1.false)
