-- `events::step_at` meets its contract: each arm is the step of its phase, and those that ask for no name leave the memory alone. What the steps
-- ask: proofs/Asked.antt.
use Rattle.events.proofs.Asked.{offsets-asked, name-asked, named-asked, attribute-asked, step_of-at}
use mathlib.Core.Path.{◌∙◌}
use Rattle.events.proofs.step_at.Goals as goal

pub offsets_step-requires : goal.offsets_step-requires
offsets_step-requires c =
    let start = c in
    offsets-asked start.requires.0 start.requires.1 c.in-AtOffsets.is

pub name_step-requires : goal.name_step-requires
name_step-requires c =
    let start = c in
    (name-asked start.requires.0 start.requires.1 c.in-AtName.is, start.requires.2)

pub named_step-requires : goal.named_step-requires
named_step-requires c =
    let start = c in
    (named-asked start.requires.0 start.requires.1 c.in-AtNamed.is, start.requires.2)

pub attribute_step-requires : goal.attribute_step-requires
attribute_step-requires c =
    let start = c in
    (attribute-asked start.requires.0 start.requires.1 c.in-AtAttribute.is, start.requires.2)

pub returns-in-AtGarbage : goal.returns-in-AtGarbage
returns-in-AtGarbage c =
    let start = c in
    (c.garbage_step.ensures ∙ step_of-at _ _ _ _ _ c.in-AtGarbage.is, start.requires.2)

pub returns-in-AtCount : goal.returns-in-AtCount
returns-in-AtCount c =
    let start = c in
    (c.count_step.ensures ∙ step_of-at _ _ _ _ _ c.in-AtCount.is, start.requires.2)

pub returns-in-AtOffsets : goal.returns-in-AtOffsets
returns-in-AtOffsets c =
    let start = c in
    (c.offsets_step.ensures ∙ step_of-at _ _ _ _ _ c.in-AtOffsets.is, start.requires.2)

pub returns-in-AtRefuse : goal.returns-in-AtRefuse
returns-in-AtRefuse c =
    let start = c in
    (c.refuse_step.ensures ∙ step_of-at _ _ _ _ _ c.in-AtRefuse.is, start.requires.2)

pub returns-in-AtChunk : goal.returns-in-AtChunk
returns-in-AtChunk c =
    let start = c in
    (c.turn_step.ensures ∙ step_of-at _ _ _ _ _ c.in-AtChunk.is, start.requires.2)

pub returns-in-AtGap : goal.returns-in-AtGap
returns-in-AtGap c =
    let start = c in
    (c.gap_step.ensures ∙ step_of-at _ _ _ _ _ c.in-AtGap.is, start.requires.2)

pub returns-in-AtSize : goal.returns-in-AtSize
returns-in-AtSize c =
    let start = c in
    (c.size_step.ensures ∙ step_of-at _ _ _ _ _ c.in-AtSize.is, start.requires.2)

pub returns-in-AtTrailing : goal.returns-in-AtTrailing
returns-in-AtTrailing c =
    let start = c in
    (c.trailing_step.ensures ∙ step_of-at _ _ _ _ _ c.in-AtTrailing.is, start.requires.2)

pub returns-in-AtShort : goal.returns-in-AtShort
returns-in-AtShort c =
    let start = c in
    (c.short_step.ensures ∙ step_of-at _ _ _ _ _ c.in-AtShort.is, start.requires.2)

pub returns-in-AtName : goal.returns-in-AtName
returns-in-AtName c =
    let asked = c in
    (asked.name_step.ensures.0 ∙ step_of-at _ _ _ _ _ asked.in-AtName.is, asked.name_step.ensures.1)

pub returns-in-AtNamed : goal.returns-in-AtNamed
returns-in-AtNamed c =
    let asked = c in
    (asked.named_step.ensures.0 ∙ step_of-at _ _ _ _ _ asked.in-AtNamed.is, asked.named_step.ensures.1)

pub returns-in-AtOpen : goal.returns-in-AtOpen
returns-in-AtOpen c =
    let start = c in
    (c.open_step.ensures ∙ step_of-at _ _ _ _ _ c.in-AtOpen.is, start.requires.2)

pub returns-in-AtLead : goal.returns-in-AtLead
returns-in-AtLead c =
    let start = c in
    (c.lead_step.ensures ∙ step_of-at _ _ _ _ _ c.in-AtLead.is, start.requires.2)

pub returns-in-AtAttribute : goal.returns-in-AtAttribute
returns-in-AtAttribute c =
    let asked = c in
    (asked.attribute_step.ensures.0 ∙ step_of-at _ _ _ _ _ asked.in-AtAttribute.is, asked.attribute_step.ensures.1)

pub returns-in-AtLast : goal.returns-in-AtLast
returns-in-AtLast c =
    let start = c in
    (c.last_step.ensures ∙ step_of-at _ _ _ _ _ c.in-AtLast.is, start.requires.2)

pub returns-in-AtRoot : goal.returns-in-AtRoot
returns-in-AtRoot c =
    let start = c in
    (c.root_step.ensures ∙ step_of-at _ _ _ _ _ c.in-AtRoot.is, start.requires.2)

pub returns-in-Over : goal.returns-in-Over
returns-in-Over c =
    let start = c in
    (c.over_step.ensures ∙ step_of-at _ _ _ _ _ c.in-Over.is, start.requires.2)
