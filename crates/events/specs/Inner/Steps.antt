-- The steps of the cursor, as the code takes them: each makes one event, or none, and goes on. Not part of what a reader must believe:
-- what they make in all is what specs/Events.antt says, by the law `stepped` (proofs/Steps.antt).
--
--   first_cursor   before the head; from it on the steps make all that the file makes
--   opened_by      past a start's own bytes; with no attributes also past what lies behind them; moved_by the same past one attribute
--   is_plain       a start that makes none of the notes 6, 7, 8 goes to its name at once; plain_next that phase
--   foreign_step   passes a whole stretch of chunks of one sort (docs/FORMAT.md, W4); no event where the chunk before was of that sort
--   cut_step       what is cut takes all that is left, n bytes being the body; an end closes all the same
--   step_of        the step from a cursor, by its phase; `Finish`, and nothing moves, once all is made
use Rattle.std.specs.Prelude.{ℕ, ◌+◌, ◌-◌, List, Bool, cond, ◌&&◌, not, length, drop, ltb, leb, eqb, Option, Some, None}
use Rattle.chunk.specs.Inner.Run.{skip_run}
use Rattle.errors.specs.declared.Refusal.TheVariants.{MissingRoot}
use Rattle.anomaly.specs.declared.ResAnomaly.TheVariants.{StringPoolGarbageChunk, StringCountMismatch, StringOffsetsOutOfBounds, UnknownChunk, TruncatedXml}
use Rattle.anomaly.specs.declared.ResAnomaly.TheVariants.{AttributeStartShifted, AttributeSizeMismatch, ElementTrailingBytes}
use Rattle.anomaly.specs.declared.ResAnomaly.TheVariants.{InvalidElementName, UnclosedElements, DamagedElementName}
use Rattle.text.specs.declared.NameState.{NameState}
use Rattle.text.specs.declared.NameState.TheVariants.{NoText, Invalid, Valid}
use Rattle.res_string_pool.specs.declared.Garbage.{Garbage}
use Rattle.head.specs.declared.HeadEnd.{HeadEnd}
use Rattle.head.specs.declared.HeadEnd.TheVariants.{Whole, TooSmall, HeaderSize, PoolShort, MapShort}
use Rattle.head.specs.declared.Opened.{Opened}
use Rattle.head.specs.Head.{refusal_of, outside_in}
use Rattle.xml_elements.specs.declared.XmlStartElement.{XmlStartElement}
use Rattle.xml_elements.specs.declared.Chunk.{Chunk}
use Rattle.xml_elements.specs.declared.Chunk.TheVariants.{Start, End, Other, Last}
use Rattle.xml_elements.specs.declared.CutChunk.{CutChunk}
use Rattle.xml_elements.specs.declared.CutChunk.TheVariants.{CutLine, CutHead, CutGap, CutAttributes, CutTrailing, CutEnd, CutOther}
use Rattle.xml_elements.specs.declared.Turn.{Turn}
use Rattle.xml_elements.specs.declared.Turn.TheVariants.{Stop, Foreign, Met, Cut}
use Rattle.xml_elements.specs.Chunk.{index, stride_of, attributes_at, trailing_of, turn_of}
use Rattle.events.specs.declared.Event.{Event}
use Rattle.events.specs.declared.Event.TheVariants.{Nothing, Open, Close, Note, Refuse, Finish}
use Rattle.events.specs.declared.Phase.{Phase}
use Rattle.events.specs.declared.Phase.TheVariants.{AtGarbage, AtCount, AtOffsets, AtRefuse, AtChunk, AtGap, AtSize, AtTrailing}
use Rattle.events.specs.declared.Phase.TheVariants.{AtShort, AtName, AtNamed, AtOpen, AtLead, AtAttribute, AtLast, AtRoot, Over}
use Rattle.events.specs.declared.Cursor.{Cursor}
use Rattle.events.specs.declared.Step.{Step}
use Rattle.events.specs.Events.{Names, leading, foreign_note, attribute_event}

-- ---- where the cursor goes

-- before the head
abbrev pub first_cursor : Cursor
first_cursor = record {
  at = 0;
  run = 2;
  depth = 0;
  starts = 0;
  phase = AtGarbage;
  start = record { size = 0; line = 0; name = index 0; attribute_start = 0; attribute_size = 0; attribute_count = 0 };
  reach = 0;
  left = 0;
}

abbrev pub to_phase : Cursor → Phase → Cursor
to_phase c p = record { at = c.at; run = c.run; depth = c.depth; starts = c.starts; phase = p; start = c.start; reach = c.reach; left = c.left }

abbrev pub begun_by : Cursor → XmlStartElement → ℕ → Phase → Cursor
begun_by c s reach p = record { at = c.at; run = c.run; depth = c.depth; starts = c.starts; phase = p; start = s; reach = reach; left = c.left }

-- to the place `at`, behind a chunk of the sort k
abbrev pub passed_to : Cursor → ℕ → ℕ → Cursor
passed_to c at k = record { at = at; run = k; depth = c.depth; starts = c.starts; phase = AtChunk; start = c.start; reach = c.reach; left = c.left }

abbrev pub closed_to : Cursor → ℕ → Cursor
closed_to c at = record { at = at; run = 2; depth = c.depth - 1; starts = c.starts; phase = AtChunk; start = c.start; reach = c.reach; left = c.left }

-- with n attributes left: what lies behind them is passed where there is none
abbrev pub left_next : ℕ → Phase
left_next n = cond (eqb n 0) AtChunk AtAttribute

abbrev pub behind_of : XmlStartElement → ℕ → ℕ
behind_of s n = cond (eqb n 0) (trailing_of s) 0

-- past the start's own bytes, at its attributes
abbrev pub opened_by : Cursor → Cursor
opened_by c = record {
  at = c.at + attributes_at c.start + behind_of c.start c.start.attribute_count;
  run = 2;
  depth = c.depth + 1;
  starts = c.starts + 1;
  phase = left_next c.start.attribute_count;
  start = c.start;
  reach = c.reach;
  left = c.start.attribute_count;
}

-- past one attribute
abbrev pub moved_by : Cursor → Cursor
moved_by c = record {
  at = c.at + stride_of c.start + behind_of c.start (c.left - 1);
  run = c.run;
  depth = c.depth;
  starts = c.starts;
  phase = left_next (c.left - 1);
  start = c.start;
  reach = c.reach;
  left = c.left - 1;
}

-- behind the element: the first has a leading attribute
abbrev pub after_open : Cursor → Cursor
after_open c = cond (eqb c.starts 0) (to_phase c AtLead) (opened_by c)

-- ---- what a step makes

abbrev pub to_step : Cursor → Event → Phase → Step
to_step c e p = record { event = e; cur = to_phase c p }

abbrev pub note_if : Bool → Event → Event
note_if b e = cond b e Nothing

abbrev pub garbage_event : Option Garbage → Event
garbage_event None = Nothing
garbage_event (Some g) = Note (StringPoolGarbageChunk g.kind g.skipped)

abbrev pub garbage_step : Opened → Cursor → Step
garbage_step o c = to_step c (garbage_event o.garbage) AtCount

-- behind the count: a pool that is short is refused, else the offsets are looked at
abbrev pub pool_next : HeadEnd → Phase
pool_next Whole = AtOffsets
pool_next (MapShort m) = AtOffsets
pool_next (PoolShort e) = AtRefuse
pool_next (TooSmall n) = AtRefuse
pool_next (HeaderSize n) = AtRefuse

abbrev pub count_step : Opened → Cursor → Step
count_step o c = to_step c (note_if (not (eqb o.declared o.head.count)) (Note (StringCountMismatch o.declared o.head.count))) (pool_next o.end)

abbrev pub map_next : HeadEnd → Phase
map_next Whole = AtChunk
map_next (MapShort m) = AtRefuse
map_next (PoolShort e) = AtRefuse
map_next (TooSmall n) = AtRefuse
map_next (HeaderSize n) = AtRefuse

abbrev pub offsets_step : List ℕ → Opened → Cursor → Step
offsets_step t o c = to_step c (note_if (not (eqb (outside_in t o.head) 0)) (Note (StringOffsetsOutOfBounds (outside_in t o.head)))) (map_next o.end)

-- a start that makes none of the notes 6, 7, 8 goes to its name at once
abbrev pub is_plain : XmlStartElement → Bool
is_plain s = leb s.attribute_start 20 && (leb s.attribute_size 20 && eqb (trailing_of s) 0)

abbrev pub plain_next : XmlStartElement → Phase
plain_next s = cond (is_plain s) AtName AtGap

abbrev pub chunk_step : Cursor → Chunk → Step
chunk_step c (Start s) = record { event = Nothing; cur = begun_by c s 3 (plain_next s) }
chunk_step c End = record { event = Close; cur = closed_to c (c.at + 24) }
chunk_step c (Other n) = record { event = Nothing; cur = passed_to c (c.at + n) 2 }
chunk_step c Last = record { event = Note (UnknownChunk 0x17f); cur = passed_to c (c.at + 16) 2 }

-- with n the body's length
abbrev pub cut_step : ℕ → Cursor → CutChunk → Step
cut_step n c CutLine = to_step c Nothing AtShort
cut_step n c CutHead = to_step c Nothing AtShort
cut_step n c (CutGap s) = record { event = Nothing; cur = begun_by c s 0 AtGap }
cut_step n c (CutAttributes s) = record { event = Nothing; cur = begun_by c s 1 AtGap }
cut_step n c (CutTrailing s) = record { event = Nothing; cur = begun_by c s 2 AtGap }
cut_step n c CutEnd = record { event = Close; cur = closed_to c n }
cut_step n c CutOther = record { event = Nothing; cur = passed_to c n 2 }

-- a foreign chunk, and all of its sort that follow it
abbrev pub foreign_step : List ℕ → Cursor → ℕ → ℕ → ℕ → Step
foreign_step b c k a n = record { event = cond (eqb k c.run) Nothing (Note (foreign_note k a)); cur = passed_to c (skip_run b (c.at + n) k) k }

abbrev pub turn_step : List ℕ → Cursor → Turn → Step
turn_step b c Stop = to_step c Nothing AtLast
turn_step b c (Foreign k a n) = foreign_step b c k a n
turn_step b c (Met x) = chunk_step c x
turn_step b c (Cut x) = cut_step (length b) c x

abbrev pub gap_step : Cursor → Step
gap_step c =
    to_step c (note_if (ltb 20 c.start.attribute_start) (Note (AttributeStartShifted c.start.attribute_start)))
    (cond (eqb c.reach 0) AtShort AtSize)

abbrev pub size_step : Cursor → Step
size_step c =
    to_step c
    (note_if (not (eqb c.start.attribute_count 0) && ltb 20 c.start.attribute_size) (Note (AttributeSizeMismatch c.start.attribute_size)))
    (cond (ltb c.reach 2) AtShort AtTrailing)

abbrev pub trailing_step : Cursor → Step
trailing_step c =
    to_step c (note_if (not (eqb (trailing_of c.start) 0)) (Note (ElementTrailingBytes (trailing_of c.start)))) (cond (eqb c.reach 3) AtName AtShort)

abbrev pub open_step : Cursor → ℕ → Step
open_step c fixed = record { event = Open c.start.name fixed c.start.line; cur = after_open c }

-- a name that is not valid makes its note first
abbrev pub named_step : Cursor → NameState → Step
named_step c Valid = open_step c 0
named_step c Invalid = to_step c (Note (InvalidElementName c.start.name 1)) AtOpen
named_step c NoText = to_step c (Note (InvalidElementName c.start.name 0)) AtOpen

-- before it a name whose text is not whole, d being its state; one that is whole costs no step of its own
abbrev pub name_step : Cursor → ℕ → NameState → Step
name_step c d s = cond (eqb d 0) (named_step c s) (to_step c (Note (DamagedElementName c.start.name d)) AtNamed)

abbrev pub last_step : Cursor → Step
last_step c = to_step c (note_if (not (eqb c.depth 0)) (Note (UnclosedElements c.depth))) AtRoot

abbrev pub root_step : Cursor → Step
root_step c = to_step c (note_if (eqb c.starts 0) (Refuse MissingRoot)) Over

-- t is the bytes behind the file's header, b the body
abbrev pub step_by : Names → Opened → List ℕ → List ℕ → Cursor → Phase → Step
step_by N o t b c AtGarbage = garbage_step o c
step_by N o t b c AtCount = count_step o c
step_by N o t b c AtOffsets = offsets_step t o c
step_by N o t b c AtRefuse = to_step c (Refuse (refusal_of o.end)) Over
step_by N o t b c AtChunk = turn_step b c (turn_of (drop c.at b))
step_by N o t b c AtGap = gap_step c
step_by N o t b c AtSize = size_step c
step_by N o t b c AtTrailing = trailing_step c
step_by N o t b c AtShort = to_step c (Note TruncatedXml) AtLast
step_by N o t b c AtName = name_step c (N.damage c.start.name.0) (N.state c.start.name.0)
step_by N o t b c AtNamed = named_step c (N.state c.start.name.0)
step_by N o t b c AtOpen = open_step c 1
step_by N o t b c AtLead = record { event = leading; cur = opened_by c }
step_by N o t b c AtAttribute = record { event = attribute_event N (drop c.at b); cur = moved_by c }
step_by N o t b c AtLast = last_step c
step_by N o t b c AtRoot = root_step c
step_by N o t b c Over = to_step c Finish Over

unfoldable pub step_of : Names → Opened → List ℕ → List ℕ → Cursor → Step
step_of N o t b c = step_by N o t b c c.phase
