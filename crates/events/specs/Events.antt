-- What a file makes, in its order: docs/FORMAT.md, H16, W4, W11 to W28, B3. No position, no room, no cap, no table.
--
--   prefix_in        the prefix that the text of a namespace gives, by the mode of the reading
--   attribute_event  what an attribute makes: its record, note 10, or that it is left out for want of a text
--   start_events     what a whole start makes: notes 6, 7, 8, 32 and 9 where they are due, the element, the leading attribute, its attributes
--   cut_yield        what a chunk makes that is cut: of a start the notes as far as it is there, and note 11
--   yield_of         what a turn makes; next_of with what state the walk goes on: the sort of the chunk before, depth, starts
--   body_events      what the body makes, note 12 and the refusal of a body without a start at its end
--   file_events      the head's notes and refusals, then the body's events
--
-- Names are asked of `Names`: what an index stands for. The walk itself is `trace` of crate chunk.
use Rattle.std.specs.Prelude.{ℕ, zero, suc, ◌+◌, ◌-◌, List, [], ◌∷◌, ◌++◌, Bool, true, false, cond, ◌&&◌, not, length, drop, ltb, eqb}
use Rattle.chunk.specs.Walk.{trace}
use Rattle.errors.specs.declared.Refusal.TheVariants.{MissingRoot}
use Rattle.anomaly.specs.declared.ResAnomaly.{ResAnomaly}
use Rattle.anomaly.specs.declared.ResAnomaly.TheVariants.{NonXmlChunk, XmlNodeHeaderSize, UnknownChunk, TruncatedXml, UnclosedElements}
use Rattle.anomaly.specs.declared.ResAnomaly.TheVariants.{AttributeStartShifted, AttributeSizeMismatch, ElementTrailingBytes}
use Rattle.anomaly.specs.declared.ResAnomaly.TheVariants.{InvalidElementName, InvalidAttributeName, DamagedElementName}
use Rattle.records.specs.Words.{apart, own_prefix}
use Rattle.records.specs.Repeats.{Rule, by_prefix}
use Rattle.system_types.specs.Names.{Lent}
use Rattle.utf.specs.Text.{state_number}
use Rattle.text.specs.Content.{Content, content_of, damage_in, has_text, state_in, same_name, is_android}
use Rattle.text.specs.declared.Head.{Head}
use Rattle.text.specs.declared.NameState.{NameState}
use Rattle.text.specs.declared.NameState.TheVariants.{NoText, Invalid, Valid}
use Rattle.head.specs.declared.HeadEnd.{HeadEnd}
use Rattle.head.specs.declared.HeadEnd.TheVariants.{Whole, TooSmall, HeaderSize, PoolShort, MapShort}
use Rattle.head.specs.declared.Opened.{Opened}
use Rattle.head.specs.Head.{refusal_of, garbage_notes, count_notes, offset_notes}
use Rattle.xml_elements.specs.declared.XmlStartElement.{XmlStartElement}
use Rattle.xml_elements.specs.declared.XmlAttributeElement.{XmlAttributeElement}
use Rattle.xml_elements.specs.declared.Chunk.{Chunk}
use Rattle.xml_elements.specs.declared.Chunk.TheVariants.{Start, End, Other, Last}
use Rattle.xml_elements.specs.declared.CutChunk.{CutChunk}
use Rattle.xml_elements.specs.declared.CutChunk.TheVariants.{CutLine, CutHead, CutGap, CutAttributes, CutTrailing, CutEnd, CutOther}
use Rattle.xml_elements.specs.declared.Turn.{Turn}
use Rattle.xml_elements.specs.declared.Turn.TheVariants.{Stop, Foreign, Met, Cut}
use Rattle.xml_elements.specs.Chunk.{index, stride_of, attributes_at, trailing_of, attribute_at, turn_of, used_of}
use Rattle.events.specs.declared.Event.{Event}
use Rattle.events.specs.declared.Event.TheVariants.{Open, Attribute, LeftOut, Close, Note, Refuse}

-- ---- names

-- what an index stands for: no text, a text that is no valid name, or a valid name; the state of its text, 0 where that is whole or there is none;
-- the prefix that a namespace index gives; and when an attribute repeats another
pub record Names : Type 0 where
  pub state : ℕ → NameState
  pub damage : ℕ → ℕ
  pub prefix_of : ℕ → ℕ
  pub repeats : Rule

-- 0 for a namespace index without a text; else 1 (android), but where namespaces are told apart 3 for any text that is not Android's
abbrev pub prefix_in : ℕ → Content → ℕ
prefix_in mode c = cond (has_text c) (cond (eqb mode apart) (cond (is_android c) 1 own_prefix) 1) 0

-- the names of a head, in the mode of a reading
abbrev pub names_in : ℕ → Head → List ℕ → Lent → Names
names_in mode h t lent = record {
  state = λ i. state_in (content_of h t lent i);
  damage = λ i. state_number (damage_in (content_of h t lent i));
  prefix_of = λ i. prefix_in mode (content_of h t lent i);
  repeats = by_prefix (same_name h t lent);
}

abbrev pub event_if : Bool → Event → List Event
event_if true e = e ∷ []
event_if false e = []

abbrev pub is_valid : NameState → Bool
is_valid NoText = false
is_valid Invalid = false
is_valid Valid = true

abbrev pub has_one : NameState → ℕ
has_one NoText = 0
has_one Invalid = 1
has_one Valid = 1

-- 1 for `invalid-element`
abbrev pub fixed_of : NameState → ℕ
fixed_of NoText = 1
fixed_of Invalid = 1
fixed_of Valid = 0

-- ---- a start

-- the leading attribute of the first element: prefix 2, name `android`, its words 0, 3, 0
abbrev pub leading : Event
leading = Attribute 2 (record { namespace_uri = index 0; name = index 0; data_type = 3; «data» = 0 })

abbrev pub attribute_by : Names → XmlAttributeElement → NameState → Event
attribute_by N a NoText = LeftOut a.name
attribute_by N a Invalid = Note (InvalidAttributeName a.name)
attribute_by N a Valid = Attribute (N.prefix_of a.namespace_uri.0) a

unfoldable pub attribute_event : Names → List ℕ → Event
attribute_event N l = attribute_by N (attribute_at l) (N.state (attribute_at l).name.0)

-- n attributes, `stride` bytes apart
unfoldable pub attributes_of : Names → ℕ → ℕ → List ℕ → List Event
attributes_of N zero stride l = []
attributes_of N (suc n) stride l = attribute_event N l ∷ attributes_of N n stride (drop stride l)

abbrev pub cut_short : List Event
cut_short = Note TruncatedXml ∷ []

-- notes 6, 7 and 8: the attributes begin late, each is longer than 20 bytes, bytes are left behind them
abbrev pub gap_note : XmlStartElement → List Event
gap_note s = event_if (ltb 20 s.attribute_start) (Note (AttributeStartShifted s.attribute_start))

abbrev pub size_note : XmlStartElement → List Event
size_note s = event_if (not (eqb s.attribute_count 0) && ltb 20 s.attribute_size) (Note (AttributeSizeMismatch s.attribute_size))

abbrev pub trailing_note : XmlStartElement → List Event
trailing_note s = event_if (not (eqb (trailing_of s) 0)) (Note (ElementTrailingBytes (trailing_of s)))

-- notes 32 and 9: the text of the name is damaged, the name is no valid one
abbrev pub damage_note : Names → XmlStartElement → List Event
damage_note N s = event_if (not (eqb (N.damage s.name.0) 0)) (Note (DamagedElementName s.name (N.damage s.name.0)))

abbrev pub name_note : Names → XmlStartElement → List Event
name_note N s = event_if (not (is_valid (N.state s.name.0))) (Note (InvalidElementName s.name (has_one (N.state s.name.0))))

abbrev pub open_event : Names → XmlStartElement → Event
open_event N s = Open s.name (fixed_of (N.state s.name.0)) s.line

-- a whole start behind k others, l from its first byte: its notes, the element, the leading attribute of the first, its attributes
unfoldable pub start_events : Names → XmlStartElement → ℕ → List ℕ → List Event
start_events N s k l =
    gap_note s ++ (size_note s ++ (trailing_note s ++ (damage_note N s ++ (name_note N s ++ (open_event N s ∷ (
    event_if (eqb k 0) leading ++ attributes_of N s.attribute_count (stride_of s) (drop (attributes_at s) l)))))))

-- ---- a turn

-- the sort of the foreign chunk before (2: the chunk before is none), the depth, the starts so far
pub record WalkState : Type 0 where
  pub run : ℕ
  pub depth : ℕ
  pub starts : ℕ

-- note 3 for a chunk that is not XML, note 4 for one whose header size is not 16
abbrev pub foreign_note : ℕ → ℕ → ResAnomaly
foreign_note k a = cond (eqb k 0) (NonXmlChunk a) (XmlNodeHeaderSize a)

abbrev pub chunk_yield : Names → List ℕ → WalkState → Chunk → List Event
chunk_yield N l p (Start s) = start_events N s p.starts l
chunk_yield N l p End = Close ∷ []
chunk_yield N l p (Other n) = []
chunk_yield N l p Last = Note (UnknownChunk 0x17f) ∷ []

-- a start that is cut: its notes as far as it is there, and note 11
abbrev pub cut_yield : Names → List ℕ → WalkState → CutChunk → List Event
cut_yield N l p CutLine = cut_short
cut_yield N l p CutHead = cut_short
cut_yield N l p (CutGap s) = gap_note s ++ cut_short
cut_yield N l p (CutAttributes s) = gap_note s ++ (size_note s ++ cut_short)
cut_yield N l p (CutTrailing s) = gap_note s ++ (size_note s ++ (trailing_note s ++ cut_short))
cut_yield N l p CutEnd = Close ∷ []
cut_yield N l p CutOther = []

-- one note for each stretch of one sort, from its first chunk
abbrev pub yield_of : Names → List ℕ → WalkState → Turn → List Event
yield_of N l p Stop = []
yield_of N l p (Foreign k a n) = event_if (not (eqb k p.run)) (Note (foreign_note k a))
yield_of N l p (Met c) = chunk_yield N l p c
yield_of N l p (Cut c) = cut_yield N l p c

abbrev pub started : WalkState → WalkState
started p = record { run = 2; depth = p.depth + 1; starts = p.starts + 1 }

-- an end takes one from the depth, not below 0, even when its 8 bytes are cut
abbrev pub ended : WalkState → WalkState
ended p = record { run = 2; depth = p.depth - 1; starts = p.starts }

abbrev pub passed : WalkState → ℕ → WalkState
passed p k = record { run = k; depth = p.depth; starts = p.starts }

abbrev pub chunk_next : WalkState → Chunk → WalkState
chunk_next p (Start s) = started p
chunk_next p End = ended p
chunk_next p (Other n) = passed p 2
chunk_next p Last = passed p 2

abbrev pub cut_next : WalkState → CutChunk → WalkState
cut_next p CutLine = passed p 2
cut_next p CutHead = passed p 2
cut_next p (CutGap s) = passed p 2
cut_next p (CutAttributes s) = passed p 2
cut_next p (CutTrailing s) = passed p 2
cut_next p CutEnd = ended p
cut_next p CutOther = passed p 2

abbrev pub next_of : WalkState → Turn → WalkState
next_of p Stop = p
next_of p (Foreign k a n) = passed p k
next_of p (Met c) = chunk_next p c
next_of p (Cut c) = cut_next p c

-- ---- a body

-- behind the walk: note 12 where the depth is not 0; no start at all is a refusal
abbrev pub from_root : WalkState → List Event
from_root p = event_if (eqb p.starts 0) (Refuse MissingRoot)

abbrev pub last_of : WalkState → List Event
last_of p = event_if (not (eqb p.depth 0)) (Note (UnclosedElements p.depth)) ++ from_root p

abbrev pub used : List ℕ → WalkState → ℕ
used l p = used_of (length l) (turn_of l)

abbrev pub out : Names → List ℕ → WalkState → List Event
out N l p = yield_of N l p (turn_of l)

abbrev pub next : List ℕ → WalkState → WalkState
next l p = next_of p (turn_of l)

unfoldable pub events_on : Names → List ℕ → WalkState → List Event
events_on N l p = trace used (out N) next last_of l p

unfoldable pub body_events : Names → List ℕ → List Event
body_events N l = events_on N l (record { run = 2; depth = 0; starts = 0 })

-- ---- a file

abbrev pub notes_of : List ResAnomaly → List Event
notes_of [] = []
notes_of (a ∷ rest) = Note a ∷ notes_of rest

-- what stands behind the notes 0 and 1 of the head o: t is the bytes behind the file's header, b the body
abbrev pub after_pool : Names → Opened → List ℕ → List ℕ → HeadEnd → List Event
after_pool N o t b Whole = notes_of (offset_notes t o) ++ body_events N b
after_pool N o t b (MapShort m) = notes_of (offset_notes t o) ++ (Refuse (refusal_of (MapShort m)) ∷ [])
after_pool N o t b (PoolShort e) = Refuse (refusal_of (PoolShort e)) ∷ []
after_pool N o t b (TooSmall n) = Refuse (refusal_of (TooSmall n)) ∷ []
after_pool N o t b (HeaderSize n) = Refuse (refusal_of (HeaderSize n)) ∷ []

unfoldable pub file_events : Names → Opened → List ℕ → List ℕ → List Event
file_events N o t b = notes_of (garbage_notes o) ++ (notes_of (count_notes o) ++ after_pool N o t b o.end)
