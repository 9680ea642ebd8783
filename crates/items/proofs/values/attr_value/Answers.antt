-- `items::values::attr_value` meets its contract: no item (`spoken-none`), an enum (`spoken-enum`), a flag (`spoken-flags`).
use Prim.Native.Nat.{◌-◌, ◌+◌}
use Rattle.items.specs.Items.{item_at, items_from}
use Rattle.items.proofs.TurnLaws.{run_step, run_end, spoken-none, spoken-enum, spoken-flags}
use Rattle.items.proofs.values.attr_value.Goals as goal

pub returns-then-run : goal.returns-then-run
returns-then-run c =
    let a = c.args in
    spoken-none a.area.now a.value a.out.now (run_end a.items.now a.run.first a.run.end c.if-run.true)

pub returns-then-head-eq0 : goal.returns-then-head-eq0
returns-then-head-eq0 c =
    let a = c.args in
    let w = a.items.now in
    let i = item_at w a.run.first in
    let js = items_from w (a.run.first + 1) (a.run.end - (a.run.first + 1)) in
    spoken-enum a.area.now a.value i js
    (run_step w a.run.first a.run.end c.if-run.false)
    c.item_at-head.ensures
    c.if-head-eq0.true
    c.find_value-found.ensures c.put_enum-length.ensures

pub returns : goal.returns
returns c =
    let a = c.args in
    let w = a.items.now in
    let i = item_at w a.run.first in
    let js = items_from w (a.run.first + 1) (a.run.end - (a.run.first + 1)) in
    spoken-flags a.area.now a.value i js
    (run_step w a.run.first a.run.end c.if-run.false)
    c.item_at-head.ensures
    c.if-head-eq0.false
    c.put_flags.ensures c.said_flags.ensures
