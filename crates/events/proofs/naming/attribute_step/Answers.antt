-- `events::naming::attribute_step` meets its contract: the bytes from the cursor on begin with the attribute.
use Rattle.events.proofs.Model.{rest}
use Rattle.events.specs.Events.{attribute_event}
use Rattle.events.proofs.naming.attribute_step.Goals as goal

pub attribute_event-requires : goal.attribute_event-requires
attribute_event-requires c =
    let start = c in
    (start.requires.0.0, start.requires.1)

pub returns : goal.returns
unfolding attribute_event
returns c =
    let event = c in
    let a = c.args in (
      rw (c.moved_by.ensures, event.attribute_event.ensures.0, event.attribute_at-a.ensures, rest a.b.now a.c.at),
      event.attribute_event.ensures.1,
    )
