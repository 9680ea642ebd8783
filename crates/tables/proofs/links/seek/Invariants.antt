-- `tables::links::seek` meets its contract: the way of the key, down to a record that is repeated or to its end (proofs/Ways.antt).
-- Invariant: record i is on the way, what is repeated is on the way from there, and what is known holds. Measure: the records left.
use Prim.Native.Nat.{◌-◌, ◌/◌}
use lib.ListN.{length}
use Rattle.utf.specs.Plain.{Known}
use Rattle.records.specs.Words.{attribute_width}
use Rattle.system_types.specs.Names.{lends}
use Rattle.text.specs.Content.{plain_in, same_name}
use Rattle.text.specs.Inner.Found.{part_of}
use Rattle.tables.specs.Inner.Keys.{key_by}
use Rattle.tables.specs.Inner.Numbered.{Numbered}
use Rattle.tables.proofs.Ways.{Walks}
use Rattle.tables.proofs.links.seek.Given as goal

abbrev pub invariant-loop-h : goal.invariant-loop-h
invariant-loop-h l = Known l.plain (plain_in (part_of l.h.utf16 l.t l.area l.g)) × Numbered l.h l.t (lends l.names l.area) l.numbers
    × Walks (key_by l.h l.t (lends l.names l.area)) (same_name l.h l.t (lends l.names l.area)) l.words l.links l.key l.prefix l.name.0 l.ns.0 l.i l.left

abbrev pub decreases-loop-h : goal.decreases-loop-h
decreases-loop-h l = length l.words / attribute_width - l.i
