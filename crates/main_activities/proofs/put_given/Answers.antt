-- `main_activities::put_given` meets its contract: nothing, or the number of the name where there is one.
use Rattle.system_types.specs.Names.{lends}
use Rattle.value_text.proofs.Looking.{none_by}
use Rattle.main_activities.specs.Activities.{tree_of}
use Rattle.main_activities.proofs.Lists.{given-at, given-none}
use Rattle.main_activities.proofs.put_given.Goals as goal

pub returns-then-not-yes : goal.returns-then-not-yes
returns-then-not-yes c =
    let a = c.args in
    let if1 = c.if-not-yes in
    λ z after h. rw (if1.true) at h

pub find_named-requires : goal.find_named-requires
find_named-requires c = (c.requires.0, c.requires.1)

pub returns-in_default : goal.returns-in_default
returns-in_default c =
    let a = c.args in
    let w = tree_of a.h a.t.now (lends a.names.now a.area.now) a.items.now a.item_area.now a.nodes.now
    a.attributes.now a.count in
    λ z after h. given-none w a.k c.if-not-yes.false c.find_named.ensures (none_by c.find_named.result c.in_default.not-Some) h

pub returns : goal.returns
returns c =
    let a = c.args in
    let w = tree_of a.h a.t.now (lends a.names.now a.area.now) a.items.now a.item_area.now a.nodes.now
    a.attributes.now a.count in
    λ z after h. c.put_number.ensures z after (given-at w a.k c.if-not-yes.false c.find_named.ensures c.in-Some.is h)
