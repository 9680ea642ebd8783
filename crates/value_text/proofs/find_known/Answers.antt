-- `value_text::find_known` meets its contract: the text of the name in a buffer (`name-held`), or as `find_item` has it.
use native.Mathlib.Omega.{arith}
use Rattle.value_text.proofs.Looking.{name-held, first_of}
use Rattle.value_text.proofs.find_known.Goals as goal

pub found_into-n-requires : goal.found_into-n-requires
found_into-n-requires c = (c.requires.0, c.requires.3)

pub find_item-requires : goal.find_item-requires
find_item-requires c = (
  c.requires.0,
  c.requires.1,
  c.requires.2,
)

pub returns-then-n-gt64 : goal.returns-then-n-gt64
returns-then-n-gt64 c = c.find_item.ensures

pub find_first-requires : goal.find_first-requires
find_first-requires c = c.requires.4

pub returns : goal.returns
returns c =
    let a = c.args in
    first_of a.item_area.now a.items.now
    (name-held c.found_into-n.ensures (omega (arith, c.if-n-gt64.false)))
    c.find_first.ensures
