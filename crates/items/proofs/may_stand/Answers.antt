-- `items::may_stand` meets its contract: the first item, one behind its own attribute, one behind another.
use mathlib.Core.Path.{sym, ◌∙◌}
use native.Mathlib.Omega.{arith}
use Rattle.items.proofs.Laws.{stands-first, Stands-same, stands-other}
use Rattle.items.proofs.may_stand.Goals as goal

pub returns-then-k-lt1 : goal.returns-then-k-lt1
returns-then-k-lt1 c =
    let a = c.args in
    sym (stands-first a.area.now a.items.now a.i a.k (omega arith))

pub returns-then-same_attribute : goal.returns-then-same_attribute
returns-then-same_attribute c =
    let a = c.args in
    sym (Stands-same a.area.now a.items.now a.i a.k (omega arith) c.item_at-p.ensures
    c.same_attribute.ensures c.if-same_attribute.true)

pub returns : goal.returns
returns c =
    let a = c.args in
    c.is_new.ensures ∙ sym (stands-other a.area.now a.items.now a.i a.k (omega arith) c.item_at-p.ensures
    c.same_attribute.ensures c.if-same_attribute.false)
