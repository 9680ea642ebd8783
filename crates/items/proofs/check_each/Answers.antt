-- `items::check_each` meets its contract. Invariant: the items from k on say what all of them say.
use Prim.Native.Nat.{◌/◌}
use mathlib.Core.Path.{sym, ◌∙◌}
use native.Mathlib.Omega.{arith}
use lib.ListN.{length}
use Rattle.records.specs.Words.{item_width}
use Rattle.items.specs.Items.{end_of}
use Rattle.items.proofs.Laws.{rule_end, rule-bad, rule-next, table-first, table-rest, table-whole}
use Rattle.items.proofs.check_each.Goals as goal

pub loop-k-init : goal.loop-k-init
loop-k-init c =
    let a = c.args in
    table-first a.area.now a.items.now

pub returns-then-not-is_good : goal.returns-then-not-is_good
returns-then-not-is_good c =
    let a = c.args in
    let l = c.loop-k in
    let w = a.items.now in
    rule-bad a.area.now w (end_of w) (length w / item_width) l.k (omega arith) c.item_at.ensures c.is_good.ensures
    c.if-not-is_good.true ∙ sym l.invariant

pub loop-k-preserved : goal.loop-k-preserved
loop-k-preserved c =
    let a = c.args in
    let l = c.loop-k in
    let w = a.items.now in
    l.invariant ∙ rule-next a.area.now w (end_of w) (length w / item_width) l.k (omega arith) c.item_at.ensures
    c.is_good.ensures c.if-not-is_good.false

pub returns-then-items-ne0 : goal.returns-then-items-ne0
returns-then-items-ne0 c =
    let a = c.args in
    let l = c.loop-k in
    let w = a.items.now in
    sym (l.invariant ∙ rule_end a.area.now w (end_of w) (length w / item_width) l.k (omega arith) ∙ table-rest a.area.now w c.if-items-ne0.true)

pub returns : goal.returns
returns c =
    let a = c.args in
    let l = c.loop-k in
    let w = a.items.now in
    sym (l.invariant ∙ rule_end a.area.now w (end_of w) (length w / item_width) l.k (omega arith) ∙ table-whole a.area.now w c.if-items-ne0.false)
