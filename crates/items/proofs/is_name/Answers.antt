-- `items::is_name` meets its contract: the parts of the rule in their order.
use mathlib.Core.Path.{sym, ◌∙◌}
use native.Mathlib.Omega.{arith}
use Rattle.items.proofs.Laws.{is_name-empty, is_name-past, is_name-by, is_name-plain}
use Rattle.items.proofs.is_name.Goals as goal

pub returns-then-n-lt1 : goal.returns-then-n-lt1
returns-then-n-lt1 c =
    let a = c.args in
    sym (is_name-empty a.area.now a.start a.n (omega arith))

pub returns-then-area-to : goal.returns-then-area-to
returns-then-area-to c =
    let a = c.args in
    sym (is_name-past a.area.now a.start a.n (omega arith) (omega arith))

pub returns-then-plain : goal.returns-then-plain
returns-then-plain c =
    let a = c.args in
    sym (is_name-plain a.area.now a.start a.n (c.requires c.if-plain.true) (omega arith) (omega arith))

pub returns : goal.returns
returns c =
    let a = c.args in
    c.is_ascii.ensures ∙ sym (is_name-by a.area.now a.start a.n (omega arith) (omega arith))
