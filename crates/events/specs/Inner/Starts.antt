-- What a start makes, as the code goes: each line makes what is next and goes on where the next begins. No public promise reaches this file.
--
--   from_gap   what is made from note 6 on by the start s behind k others, l from its first byte; `reach` says how much of it is there: 0 not
--             even the gap before its attributes, 1 the gap, 2 the attributes too, 3 all
--
-- With reach 3 it is `start_events` of specs/Events.antt (`start_events-chain` in proofs/Model.antt), with 0, 1 and 2 what `cut_yield` has there.
use Rattle.std.specs.Prelude.{ℕ, List, ◌∷◌, ◌++◌, cond, drop, ltb, eqb}
use Rattle.xml_elements.specs.declared.XmlStartElement.{XmlStartElement}
use Rattle.xml_elements.specs.Chunk.{stride_of, attributes_at}
use Rattle.events.specs.declared.Event.{Event}
use Rattle.events.specs.Events.{Names, event_if, leading, attributes_of, cut_short, gap_note, size_note, trailing_note, damage_note, name_note, open_event}

unfoldable pub from_lead : Names → XmlStartElement → ℕ → List ℕ → List Event
from_lead N s k l = event_if (eqb k 0) leading ++ attributes_of N s.attribute_count (stride_of s) (drop (attributes_at s) l)

unfoldable pub from_open : Names → XmlStartElement → ℕ → List ℕ → List Event
from_open N s k l = open_event N s ∷ from_lead N s k l

unfoldable pub from_named : Names → XmlStartElement → ℕ → List ℕ → List Event
from_named N s k l = name_note N s ++ from_open N s k l

unfoldable pub from_name : Names → XmlStartElement → ℕ → List ℕ → List Event
from_name N s k l = damage_note N s ++ from_named N s k l

unfoldable pub from_trailing : Names → XmlStartElement → ℕ → ℕ → List ℕ → List Event
from_trailing N s reach k l = trailing_note s ++ cond (eqb reach 3) (from_name N s k l) cut_short

unfoldable pub from_size : Names → XmlStartElement → ℕ → ℕ → List ℕ → List Event
from_size N s reach k l = size_note s ++ cond (ltb reach 2) cut_short (from_trailing N s reach k l)

unfoldable pub from_gap : Names → XmlStartElement → ℕ → ℕ → List ℕ → List Event
from_gap N s reach k l = gap_note s ++ cond (eqb reach 0) cut_short (from_size N s reach k l)
