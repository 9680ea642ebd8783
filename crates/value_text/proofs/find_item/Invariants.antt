-- `value_text::find_item` meets its contract. Invariant: no item before k is of the name.
use Rattle.text.specs.Content.{text_in}
use Rattle.text.specs.Inner.Found.{part_of}
use Rattle.items.proofs.RunLaws.{named_from}
use Rattle.value_text.proofs.find_item.Given as goal

abbrev pub invariant-loop-k : goal.invariant-loop-k
invariant-loop-k l = named_from l.item_area (text_in (part_of l.utf16 l.t l.area l.f)) l.items l.k
