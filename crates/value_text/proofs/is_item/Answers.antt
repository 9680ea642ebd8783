-- `value_text::is_item` meets its contract: the bytes of an item's attribute are plain (`is-item`).
use mathlib.Core.Path.{ap, ◌∙◌}
use native.Mathlib.Omega.{arith}
use Rattle.items.specs.Items.{attribute_of}
use Rattle.items.proofs.Together.{good-ascii}
use Rattle.value_text.proofs.Looking.{is-item, plain-item, known-plain}
use Rattle.value_text.proofs.is_item.Goals as goal

pub item_at-i-requires : goal.item_at-i-requires
item_at-i-requires c = omega (arith, c.requires.3)

pub same_part-requires : goal.same_part-requires
same_part-requires c =
    let s = c in
    let a = s.args in
    let p = plain-item a.item_area.now a.items.now a.k s.requires.2 s.requires.3 c.item_at-i.ensures c.part_of.ensures in
    (s.requires.0, known-plain c.part_of.result.now p)

pub returns : goal.returns
returns c =
    let s = c in
    let a = s.args in
    let e = c.part_of.ensures ∙ ap (attribute_of a.item_area.now) c.item_at-i.ensures in
    let p = good-ascii a.item_area.now a.items.now s.requires.2 a.k s.requires.3 in
    is-item a.utf16 a.t.now a.area.now a.f s.requires.1 e p c.same_part.ensures
