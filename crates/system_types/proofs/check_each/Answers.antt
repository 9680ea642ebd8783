-- `system_types::check_each` meets its contract. Invariant: what the entries left say is what all of them say.
use Rattle.std.proofs.Common.{Err, ◌≡◌, ◌*◌, ◌/◌, ◌<◌, ◌≤◌, length, drop, not, sym, ap, ◌∙◌, arith, length-drop}
use Rattle.system_types.proofs.Laws.{names_from-refused, names_from-passed, names_from-stop, names_from-left}
use Rattle.system_types.proofs.check_each.Goals as goal

pub returns-then-not-is_good : goal.returns-then-not-is_good
returns-then-not-is_good c =
    let a = c.args in
    let l = c.loop-k in
    let g = c.is_good in
    names_from-refused a.area.now l.last a.names.now l.k (omega arith) g.result _ g.ensures (ap not c.if-not-is_good.true) l.invariant

pub loop-k-preserved : goal.loop-k-preserved
loop-k-preserved c =
    let a = c.args in
    let l = c.loop-k in
    let g = c.is_good in
    let area = a.area.now in
    let names = a.names.now in
    names_from-passed area l.last names l.k (omega arith) g.result _ g.ensures (ap not c.if-not-is_good.false) l.invariant

pub returns-then-names-ne0 : goal.returns-then-names-ne0
returns-then-names-ne0 c =
    let a = c.args in
    let l = c.loop-k in
    let w = drop (3 * l.k) a.names.now in
    let some : 1 ≤ length w = rw length-drop (omega arith) in
    let few : length w < 3 = rw length-drop (omega arith) in
    let all : length a.names.now / 3 ≡ l.k = omega arith in
    ap Err all ∙ sym (names_from-left a.area.now l.last l.k w some few) ∙ l.invariant

pub returns : goal.returns
returns c =
    let a = c.args in
    let l = c.loop-k in
    let w = drop (3 * l.k) a.names.now in
    let none : length w ≡ 0 = rw length-drop (omega arith) in
    sym (names_from-stop a.area.now l.last l.k w none) ∙ l.invariant
