-- `items::values::find_value` meets its contract. Invariant: what the items from k on say is what all say.
use Rattle.std.specs.Prelude.{Some}
use Prim.Native.Nat.{◌-◌, ◌+◌}
use mathlib.Core.Path.{sym, ap, ◌∙◌}
use Rattle.items.specs.Items.{item_at, items_from, enum_of}
use Rattle.items.proofs.TurnLaws.{run_step, run_end, valued-here, valued-next}
use Rattle.items.proofs.values.find_value.Goals as goal

pub returns-then-i-value : goal.returns-then-i-value
returns-then-i-value c =
    let a = c.args in
    let l = c.loop-k in
    let w = a.items.now in
    let e = run_step w l.k a.end c.loop-k-test.true in
    let h = valued-here a.value (item_at w l.k) (items_from w (l.k + 1) (a.end - (l.k + 1))) c.item_at-i.ensures c.if-i-value.true in
    ap Some c.item_at-i.ensures ∙ sym (l.invariant ∙ ap (enum_of a.value) e ∙ h)

pub loop-k-preserved : goal.loop-k-preserved
loop-k-preserved c =
    let a = c.args in
    let l = c.loop-k in
    let w = a.items.now in
    let e = run_step w l.k a.end c.loop-k-test.true in
    let h = valued-next a.value (item_at w l.k) (items_from w (l.k + 1) (a.end - (l.k + 1))) c.item_at-i.ensures c.if-i-value.false in
    l.invariant ∙ ap (enum_of a.value) e ∙ h

pub returns : goal.returns
unfolding enum_of
returns c =
    let a = c.args in
    let l = c.loop-k in
    sym (l.invariant ∙ ap (enum_of a.value) (run_end a.items.now l.k a.end c.loop-k-test.false))
