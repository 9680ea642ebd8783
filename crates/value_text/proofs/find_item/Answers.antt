-- `value_text::find_item` meets its contract. Invariant: no item before k is of the name.
use Prim.Native.Nat.{◌/◌}
use native.Mathlib.Omega.{arith}
use mathlib.Core.Path.{◌≡◌}
use lib.ListN.{length}
use Rattle.records.specs.Words.{item_width}
use Rattle.text.specs.Content.{text_in}
use Rattle.text.specs.Inner.Found.{part_of}
use Rattle.items.proofs.RunLaws.{rest_all, first-here, first_next, first-end}
use Rattle.value_text.proofs.find_item.Goals as goal

pub loop-k-init : goal.loop-k-init
loop-k-init c =
    let a = c.args in
    rest_all a.item_area.now (text_in (part_of a.utf16 a.t.now a.area.now a.f)) a.items.now

pub is_item-requires : goal.is_item-requires
is_item-requires c = (c.requires.0, c.requires.1, c.requires.2, omega arith)

pub returns-then-is_item : goal.returns-then-is_item
returns-then-is_item c =
    let a = c.args in
    let l = c.loop-k in
    let name = text_in (part_of a.utf16 a.t.now a.area.now a.f) in
    first-here a.item_area.now name a.items.now l.k (omega arith) c.is_item.ensures c.if-is_item.true l.invariant

pub loop-k-preserved : goal.loop-k-preserved
loop-k-preserved c =
    let a = c.args in
    let l = c.loop-k in
    let name = text_in (part_of a.utf16 a.t.now a.area.now a.f) in
    first_next a.item_area.now name a.items.now l.k (omega arith) c.is_item.ensures c.if-is_item.false l.invariant

pub returns : goal.returns
returns c =
    let a = c.args in
    let l = c.loop-k in
    let name = text_in (part_of a.utf16 a.t.now a.area.now a.f) in
    first-end a.item_area.now name a.items.now l.k (omega arith) l.invariant
