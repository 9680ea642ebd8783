-- `items::taking::put_flags` meets its contract. Invariant: `Going`, what the items from k on still do.
use Prim.Native.Nat.{◌-◌, ◌+◌}
use native.Mathlib.Omega.{arith}
use Rattle.items.specs.Items.{item_at, items_from}
use Rattle.items.proofs.TurnLaws.{run_step, run_end, going-near, going_step, going_done}
use borrow.Author.Rules.{rules}
use Rattle.items.proofs.taking.put_flags.Goals as goal

pub put_turn-st-requires : goal.put_turn-st-requires
put_turn-st-requires c =
    let a = c.args in
    let l = c.loop-k in
    omega (arith, going-near a.area.now a.flags (items_from a.items.now a.first (a.end - a.first)) a.p a.out.now l.invariant.1)

pub loop-k-preserved : goal.loop-k-preserved
loop-k-preserved c =
    let a = c.args in
    let l = c.loop-k in
    let w = a.items.now in (
      search rules,
      going_step a.area.now a.flags (items_from w a.first (a.end - a.first)) a.p a.out.now (item_at w l.k)
          (items_from w (l.k + 1) (a.end - (l.k + 1))) (run_step w l.k a.end c.loop-k-test.true)
          c.item_at-i.ensures l.invariant.1
          c.put_turn-st.ensures,
    )

pub returns : goal.returns
returns c =
    let a = c.args in
    let l = c.loop-k in
    let w = a.items.now in
    going_done a.area.now a.flags (items_from w a.first (a.end - a.first)) a.p a.out.now (run_end w l.k a.end c.loop-k-test.false)
    l.invariant.1
