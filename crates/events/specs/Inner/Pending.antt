-- What holds of a cursor, what is pending from it on, and how far it is from the end: what the loop above goes by. Not part of what a
-- reader must believe.
--
--   Ready     what a step asks of the head and the names: the names keep their rule, and the head fits where the pool is there
--   Within    what a step asks of the cursor: it stands inside the body, and (Held) where it stands within a start that is there whole, the bytes
--             of that start and its attributes lie before the body's end
--   pending   what is still to be made from a cursor on; at first it is what the file makes
--   steps     a number above the count of steps that are left: each step makes it smaller, and it reaches 0 only when everything is made
--   event_list  an event as a list: none for `Nothing` and `Finish`
--   Stepped   the promise of a step: it makes the first of what is pending, stays within, and comes nearer to the end
use Rattle.std.specs.Prelude.{ℕ, ◌+◌, ◌-◌, ◌*◌, ◌≤◌, ◌<◌, ◌≡◌, List, [], ◌∷◌, ◌++◌, cond, length, drop, eqb, Ok}
use Rattle.records.specs.Limits.{file_limit}
use Rattle.system_types.specs.Names.{Lent, names_of}
use Rattle.text.specs.Inner.Found.{Fits}
use Rattle.head.specs.declared.HeadEnd.{HeadEnd}
use Rattle.head.specs.declared.HeadEnd.TheVariants.{Whole, TooSmall, HeaderSize, PoolShort, MapShort}
use Rattle.head.specs.declared.Opened.{Opened}
use Rattle.head.specs.Head.{PoolThere, refusal_of, count_notes, offset_notes}
use Rattle.xml_elements.specs.Chunk.{stride_of, trailing_of, start_len}
use Rattle.events.specs.declared.Event.{Event}
use Rattle.events.specs.declared.Event.TheVariants.{Nothing, Open, Attribute, LeftOut, Close, Note, Refuse, Finish}
use Rattle.events.specs.declared.Phase.{Phase}
use Rattle.events.specs.declared.Phase.TheVariants.{AtGarbage, AtCount, AtOffsets, AtRefuse, AtChunk, AtGap, AtSize, AtTrailing}
use Rattle.events.specs.declared.Phase.TheVariants.{AtShort, AtName, AtNamed, AtOpen, AtLead, AtAttribute, AtLast, AtRoot, Over}
use Rattle.events.specs.declared.Cursor.{Cursor}
use Rattle.events.specs.declared.Step.{Step}
use Rattle.events.specs.Events.{Names, attributes_of, cut_short}
use Rattle.events.specs.Events.{WalkState, started, from_root, last_of, events_on, body_events, notes_of, after_pool, file_events}
use Rattle.events.specs.Inner.Starts.{from_gap, from_size, from_trailing, from_name, from_named, from_lead}

-- ---- what holds of a cursor

-- before the walk has begun
pub record Unmoved (c : Cursor) : Type 0 where
  pub place : c.at ≡ 0
  pub run : c.run ≡ 2
  pub depth : c.depth ≡ 0
  pub starts : c.starts ≡ 0

-- of a start that was begun, its bytes are there if it says so
abbrev pub Begun : ℕ → Cursor → Type 0
Begun n c = (c.at + 36 ≤ n) × (c.reach ≡ 3 → c.at + start_len c.start ≤ n)

abbrev pub There : ℕ → Cursor → Type 0
There n c = (c.reach ≡ 3) × (c.at + start_len c.start ≤ n)

-- what the phase tells
abbrev pub Held : HeadEnd → ℕ → Cursor → Phase → Type 0
Held e n c AtGarbage = Unmoved c
Held e n c AtCount = Unmoved c
Held e n c AtOffsets = Unmoved c × PoolThere e
Held e n c AtRefuse = (e ≡ Whole → ⊥)
Held e n c AtChunk = PoolThere e
Held e n c AtGap = PoolThere e × Begun n c
Held e n c AtSize = PoolThere e × Begun n c
Held e n c AtTrailing = PoolThere e × Begun n c
Held e n c AtShort = Unit {0}
Held e n c AtName = PoolThere e × There n c
Held e n c AtNamed = PoolThere e × There n c
Held e n c AtOpen = PoolThere e × There n c
Held e n c AtLead = PoolThere e × (c.starts ≡ 0) × There n c
Held e n c AtAttribute = PoolThere e × (0 < c.left) × (c.at + c.left * stride_of c.start + trailing_of c.start ≤ n)
Held e n c AtLast = Unit {0}
Held e n c AtRoot = Unit {0}
Held e n c Over = Unit {0}

-- what is asked of the head and the names
pub record Ready (t : List ℕ) (lent : Lent) (o : Opened) : Type 0 where
  pub good : names_of lent ≡ (Ok tt)
  pub fits : PoolThere o.end → Fits t o.head

pub record Within (o : Opened) (b : List ℕ) (c : Cursor) : Type 0 where
  pub short : length b ≤ file_limit
  pub inside : c.at ≤ length b
  pub deep : c.depth ≤ c.starts
  pub few : c.starts ≤ c.at
  pub held : Held o.end (length b) c c.phase

-- ---- what is pending

abbrev pub spot_of : Cursor → WalkState
spot_of c = record { run = c.run; depth = c.depth; starts = c.starts }

-- behind the start that was begun: the rest of the walk where it is there, else the walk's end
abbrev pub behind : Names → List ℕ → Cursor → List Event
behind N b c = cond (eqb c.reach 3) (events_on N (drop (c.at + start_len c.start) b) (started (spot_of c))) (last_of (spot_of c))

abbrev pub after_map : Names → Opened → List ℕ → HeadEnd → List Event
after_map N o b Whole = body_events N b
after_map N o b (MapShort m) = Refuse (refusal_of (MapShort m)) ∷ []
after_map N o b (PoolShort e) = Refuse (refusal_of (PoolShort e)) ∷ []
after_map N o b (TooSmall n) = Refuse (refusal_of (TooSmall n)) ∷ []
after_map N o b (HeaderSize n) = Refuse (refusal_of (HeaderSize n)) ∷ []

abbrev pub pend_by : Names → Opened → List ℕ → List ℕ → Cursor → Phase → List Event
pend_by N o t b c AtGarbage = file_events N o t b
pend_by N o t b c AtCount = notes_of (count_notes o) ++ after_pool N o t b o.end
pend_by N o t b c AtOffsets = notes_of (offset_notes t o) ++ after_map N o b o.end
pend_by N o t b c AtRefuse = Refuse (refusal_of o.end) ∷ []
pend_by N o t b c AtChunk = events_on N (drop c.at b) (spot_of c)
pend_by N o t b c AtGap = from_gap N c.start c.reach c.starts (drop c.at b) ++ behind N b c
pend_by N o t b c AtSize = from_size N c.start c.reach c.starts (drop c.at b) ++ behind N b c
pend_by N o t b c AtTrailing = from_trailing N c.start c.reach c.starts (drop c.at b) ++ behind N b c
pend_by N o t b c AtShort = cut_short ++ last_of (spot_of c)
pend_by N o t b c AtName = from_name N c.start c.starts (drop c.at b) ++ behind N b c
pend_by N o t b c AtNamed = from_named N c.start c.starts (drop c.at b) ++ behind N b c
pend_by N o t b c AtOpen = Open c.start.name 1 c.start.line ∷ (from_lead N c.start c.starts (drop c.at b) ++ behind N b c)
pend_by N o t b c AtLead = from_lead N c.start 0 (drop c.at b) ++ behind N b c
pend_by N o t b c AtAttribute =
    attributes_of N c.left (stride_of c.start) (drop c.at b) ++
    events_on N (drop (c.at + c.left * stride_of c.start + trailing_of c.start) b) (spot_of c)
pend_by N o t b c AtLast = last_of (spot_of c)
pend_by N o t b c AtRoot = from_root (spot_of c)
pend_by N o t b c Over = []

unfoldable pub pending : Names → Opened → List ℕ → List ℕ → Cursor → List Event
pending N o t b c = pend_by N o t b c c.phase

-- ---- how far it is from the end

abbrev pub rank : Phase → ℕ
rank AtGarbage = 15
rank AtCount = 14
rank AtOffsets = 13
rank AtChunk = 12
rank AtAttribute = 12
rank AtGap = 11
rank AtSize = 10
rank AtTrailing = 9
rank AtName = 8
rank AtNamed = 7
rank AtOpen = 6
rank AtLead = 5
rank AtShort = 4
rank AtLast = 3
rank AtRoot = 2
rank AtRefuse = 1
rank Over = 0

-- more than the steps that are left
abbrev pub steps : List ℕ → Cursor → ℕ
steps b c = 20 * (length b - c.at) + rank c.phase

-- an event that is one
abbrev pub event_list : Event → List Event
event_list Nothing = []
event_list Finish = []
event_list (Open n x l) = Open n x l ∷ []
event_list (Attribute p a) = Attribute p a ∷ []
event_list (LeftOut n) = LeftOut n ∷ []
event_list Close = Close ∷ []
event_list (Note a) = Note a ∷ []
event_list (Refuse r) = Refuse r ∷ []

-- what a step does: it makes the first of what is pending, and comes nearer to the end
pub record Stepped (N : Names) (o : Opened) (t b : List ℕ) (c : Cursor) (s : Step) : Type 0 where
  pub same : pending N o t b c ≡ event_list s.event ++ pending N o t b s.cur
  pub within : Within o b s.cur
  pub less : (s.event ≡ Finish → ⊥) → steps b s.cur < steps b c
  pub over : s.event ≡ Finish → pending N o t b c ≡ []
