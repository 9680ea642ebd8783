-- `listing_back::read_listing` meets its contract: the head, the tables, zeros behind the records, the answer.
use mathlib.Core.Path.{refl}
use Rattle.listing_back.proofs.Endings.{used-fits, all_own, all_tested, relists-refused, relists-accepted}
use Rattle.listing_back.proofs.read_listing.Goals as goal

pub read_tables-end-requires : goal.read_tables-end-requires
read_tables-end-requires c = c.read_head-h.ensures

pub settle-requires : goal.settle-requires
settle-requires c = λ z. used-fits _ _ _ _ c.node_place.ensures
    (c.read_tables-end.ensures.nodes.0 z)
    c.read_tables-end.ensures.nodes.1

pub settle-requires-2 : goal.settle-requires-2
settle-requires-2 c = λ z. used-fits _ _ _ _ c.attribute_place.ensures
    (c.read_tables-end.ensures.attributes.0 z) c.read_tables-end.ensures.attributes.1

pub settle-requires-3 : goal.settle-requires-3
settle-requires-3 c = λ z. used-fits _ _ _ _ refl (c.read_tables-end.ensures.notes.0 z)
    c.read_tables-end.ensures.notes.1

pub refused-requires : goal.refused-requires
refused-requires c = all_own c.read_tables-end.ensures c.if-fault-ne0.true

pub returns-then-fault-ne0 : goal.returns-then-fault-ne0
returns-then-fault-ne0 c = relists-refused c.read_tables-end.ensures _ _ _ _ c.if-fault-ne0.true c.refused.ensures
    (c.settle.ensures.0
    c.if-fault-ne0.true) (c.settle-2.ensures.0
    c.if-fault-ne0.true) (c.settle-3.ensures.0 c.if-fault-ne0.true)

pub accepted-requires : goal.accepted-requires
accepted-requires c = all_tested c.read_tables-end.ensures c.if-fault-ne0.false

pub returns : goal.returns
returns c = relists-accepted c.read_tables-end.ensures _ _ _ _ c.if-fault-ne0.false c.accepted.ensures
    c.node_place.ensures c.attribute_place.ensures refl
    (c.settle.ensures.1
    c.if-fault-ne0.false) (c.settle-2.ensures.1
    c.if-fault-ne0.false) (c.settle-3.ensures.1 c.if-fault-ne0.false)
