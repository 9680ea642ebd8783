-- Readers in general, and sorts of readers that the promise must rule out: docs/FORMAT.md, P5.
--
--   names_for, events_of   the names of a file's head in a mode, and what the file makes with them
--   Slice         a list that can be lent: every entry below a limit, and fewer than 2^32 of them
--   Call          what a program can be called with: bytes and words
--   Reader        takes what a call of `read` is lent, and gives an answer and the three tables afterwards
--   Meets         the promise holds of all its results, asked of calls alone, so that a program is a reader
--   IsRead        the promise is that the file is read
--   RefusesAll, Constant, ConstantOnRead, Leaves.., Clears.., StopsAtStart   the sorts: each says it of all the reader's results
--   FirstStart    bytes that end with the first start: what is before it has none, it is one start chunk, and it is read whole
use Rattle.std.specs.Prelude.{ℕ, ◌<◌, ◌≡◌, Bool, true, ◌&&◌, List, [], ◌∷◌, ◌++◌, map, length, replicate, ltb}
use Rattle.anomaly.specs.declared.Note.{Note}
use Rattle.errors.specs.Refusal.{numbers_of}
use Rattle.records.specs.Words.{merged}
use Rattle.system_types.specs.Names.{Lent}
use Rattle.xml_elements.specs.declared.XmlStartElement.{XmlStartElement}
use Rattle.xml_elements.specs.declared.Chunk.TheVariants.{Start}
use Rattle.xml_elements.specs.declared.Turn.TheVariants.{Met}
use Rattle.xml_elements.specs.Chunk.{turn_of, start_len}
use Rattle.head.specs.Head.{opened_of, tables_in, body_in}
use Rattle.events.specs.declared.Event.{Event}
use Rattle.events.specs.Events.{Names, names_in, file_events}
use Rattle.walk.specs.Reading.{Reading, zero_note, reading, room_in, Reads}
use Rattle.claims.specs.Counts.{opens_in}

-- ---- what a file makes

abbrev pub names_for : ℕ → List ℕ → Lent → Names
names_for mode f lent = names_in mode (opened_of f).head (tables_in f (opened_of f).head) lent

abbrev pub events_of : ℕ → List ℕ → Lent → List Event
events_of mode f lent = file_events (names_for mode f lent) (opened_of f) (tables_in f (opened_of f).head) (body_in f (opened_of f).head)

-- ---- what can be lent

abbrev pub all_below : ℕ → List ℕ → Bool
all_below n [] = true
all_below n (x ∷ l) = ltb x n && all_below n l

pub record Slice (limit : ℕ) (l : List ℕ) : Type 0 where
  pub below : all_below limit l ≡ true
  pub short : length l < 4294967296

abbrev pub Bytes : List ℕ → Type 0
Bytes l = Slice 256 l

abbrev pub Words : List ℕ → Type 0
Words l = Slice 4294967296 l

-- the kinds of notes
abbrev pub kinds_of : List Note → List ℕ
kinds_of os = map (λ (x : Note). x.kind) os

pub record Call (f : List ℕ) (lent : Lent) (ns ats : List ℕ) (os : List Note) (cap mode : ℕ) : Type 0 where
  pub file : Bytes f
  pub name_words : Words lent.names
  pub area_bytes : Bytes lent.area
  pub node_words : Words ns
  pub attribute_words : Words ats
  pub kinds : Words (kinds_of os)
  pub firsts : Words (map (λ (x : Note). x.a) os)
  pub seconds : Words (map (λ (x : Note). x.b) os)
  pub cap_word : cap < 4294967296
  pub mode_word : mode < 4294967296

-- ---- readers

-- from file, names and their area, the tables of nodes, attributes and notes, the cap and the mode
abbrev pub Reader : Type 0
Reader = List ℕ → Lent → List ℕ → List ℕ → List Note → ℕ → ℕ → Reading

abbrev pub Meets : Reader → Type 0
Meets R =
    (f : List ℕ) (lent : Lent) (ns ats : List ℕ) (os : List Note) (cap mode : ℕ) → Call f lent ns ats os cap mode
    → Reads f lent ns ats os cap mode (R f lent ns ats os cap mode).answer (R f lent ns ats os cap mode).nodes (R f lent ns ats os cap mode).attributes
    (R f lent ns ats os cap mode).notes

-- ---- sorts of readers

abbrev pub RefusesAll : Reader → Type 0
RefusesAll R =
    (f : List ℕ) (lent : Lent) (ns ats : List ℕ) (os : List Note) (cap mode : ℕ) → Call f lent ns ats os cap mode
    → ◌≡◌ {A = ℕ} (numbers_of (R f lent ns ats os cap mode).answer).refusal 0 → ⊥

-- the same result for every file
abbrev pub Constant : Reader → Lent → List ℕ → List ℕ → List Note → ℕ → ℕ → Type 0
Constant R lent ns ats os cap mode =
    (f f' : List ℕ) → Call f lent ns ats os cap mode → Call f' lent ns ats os cap mode → R f lent ns ats os cap mode ≡ R f' lent ns ats os cap mode

abbrev pub IsRead : List ℕ → Lent → List ℕ → List ℕ → List Note → ℕ → ℕ → Type 0
IsRead f lent ns ats os cap mode = ◌≡◌ {A = ℕ} (numbers_of (reading (room_in ns ats os cap mode) f lent).answer).refusal 0

-- the same result for every file that can be read
abbrev pub ConstantOnRead : Reader → Type 0
ConstantOnRead R =
    (f f' : List ℕ) (lent : Lent) (ns ats : List ℕ) (os : List Note) (cap mode : ℕ) → Call f lent ns ats os cap mode → Call f' lent ns ats os cap mode
    → IsRead f lent ns ats os cap mode → IsRead f' lent ns ats os cap mode → R f lent ns ats os cap mode ≡ R f' lent ns ats os cap mode

-- a table as it was
abbrev pub LeavesNodes : Reader → Type 0
LeavesNodes R = (f : List ℕ) (lent : Lent) (ns ats : List ℕ) (os : List Note) (cap mode : ℕ) → Call f lent ns ats os cap mode → (R f lent ns ats os cap mode).nodes ≡ ns

abbrev pub LeavesAttributes : Reader → Type 0
LeavesAttributes R =
    (f : List ℕ) (lent : Lent) (ns ats : List ℕ) (os : List Note) (cap mode : ℕ) → Call f lent ns ats os cap mode → (R f lent ns ats os cap mode).attributes ≡ ats

abbrev pub LeavesNotes : Reader → Type 0
LeavesNotes R = (f : List ℕ) (lent : Lent) (ns ats : List ℕ) (os : List Note) (cap mode : ℕ) → Call f lent ns ats os cap mode → (R f lent ns ats os cap mode).notes ≡ os

-- or zeros in it
abbrev pub ClearsNodes : Reader → Type 0
ClearsNodes R =
    (f : List ℕ) (lent : Lent) (ns ats : List ℕ) (os : List Note) (cap mode : ℕ) → Call f lent ns ats os cap mode
    → (R f lent ns ats os cap mode).nodes ≡ replicate (length ns) 0

abbrev pub ClearsAttributes : Reader → Type 0
ClearsAttributes R =
    (f : List ℕ) (lent : Lent) (ns ats : List ℕ) (os : List Note) (cap mode : ℕ) → Call f lent ns ats os cap mode
    → (R f lent ns ats os cap mode).attributes ≡ replicate (length ats) 0

abbrev pub ClearsNotes : Reader → Type 0
ClearsNotes R =
    (f : List ℕ) (lent : Lent) (ns ats : List ℕ) (os : List Note) (cap mode : ℕ) → Call f lent ns ats os cap mode
    → (R f lent ns ats os cap mode).notes ≡ replicate (length os) zero_note

pub record FirstStart (lent : Lent) (p : List ℕ) : Type 0 where
  pub before : List ℕ
  pub chunk : List ℕ
  pub start : XmlStartElement
  pub split : p ≡ before ++ chunk
  pub none : ◌≡◌ {A = ℕ} (opens_in (events_of merged before lent)) 0
  pub one : ◌≡◌ {A = ℕ} (opens_in (events_of merged p lent)) 1
  pub reads : turn_of chunk ≡ Met (Start start)
  pub long : start_len start ≡ length chunk

-- the same result for two files that agree up to the end of the first start
abbrev pub StopsAtStart : Reader → Type 0
StopsAtStart R =
    (p x y : List ℕ) (lent : Lent) (ns ats : List ℕ) (os : List Note) (cap mode : ℕ) → Call (p ++ x) lent ns ats os cap mode → Call (p ++ y) lent ns ats os cap mode
    → FirstStart lent p → R (p ++ x) lent ns ats os cap mode ≡ R (p ++ y) lent ns ats os cap mode
