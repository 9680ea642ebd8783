-- What `advance` does: a call keeps the outcome of the whole reading, and comes nearer to its end. Not part of what a reader must believe.
--
--   first       the state before the first call; started_by behind the head, noted_by with a note to write, clearing_at with zeros to write
--   Refuses, Finishes, Noted   what the ends of a reading leave in the tables
--   outcome     what comes back in the end, from a state at the head of the loop: nodes and attributes as they are, notes as written so far
--   StateOk     what holds of a state between two calls of `advance`; it names the list of open elements, which the state does not hold
--   steps_left   a number that each call of `advance` makes smaller, so that a loop over it ends: while the body is read, the steps that may
--               come and the places of the note table together; while zeros are written behind the notes, the places that are left
--   Advanced    what one call leaves, for a state of which `StateOk` is known by the facts g; AdvanceKeeps: for whichever facts show it
use Rattle.std.specs.Prelude.{ℕ, ◌+◌, ◌-◌, ◌*◌, ◌≤◌, ◌<◌, ◌≡◌, List, ◌++◌, true, false, cond, length, take, set, replicate, ltb, Result, Ok, Err}
use Rattle.anomaly.specs.Note.{kind_index, note_of}
use Rattle.anomaly.specs.Kept.{no_notes, stored_in}
use Rattle.anomaly.specs.declared.Note.{Note as NoteOf}
use Rattle.anomaly.specs.declared.ResAnomaly.{ResAnomaly}
use Rattle.errors.specs.declared.Refusal.{Refusal}
use Rattle.errors.specs.declared.Refusal.TheVariants.{NotesFull}
use Rattle.records.specs.Words.{node_width, attribute_width}
use Rattle.system_types.specs.Names.{Lent}
use Rattle.head.specs.declared.HeadEnd.TheVariants.{Whole}
use Rattle.head.specs.declared.Opened.{Opened}
use Rattle.head.specs.Head.{unopened, tables_in, body_in}
use Rattle.events.specs.declared.Cursor.{Cursor}
use Rattle.events.specs.Events.{names_in}
use Rattle.events.specs.Inner.Steps.{first_cursor}
use Rattle.events.specs.Inner.Pending.{Ready, Within, steps}
use Rattle.tables.specs.Inner.Keys.{key_by}
use Rattle.walk.specs.declared.tree.Tree.{Tree}
use Rattle.walk.specs.declared.Stage.{Stage}
use Rattle.walk.specs.declared.Stage.TheVariants.{Fresh, Reading as InBody, Clearing}
use Rattle.walk.specs.declared.State.{State}
use Rattle.walk.specs.Settle.{Room}
use Rattle.walk.specs.Reading.{Reading, zero_note, final_of, reading, room_in}
use Rattle.walk.specs.Inner.Tree.{Tied, Chained, kept_nodes, kept_attributes}
use Rattle.walk.specs.Inner.Run.{on_from}
use Rattle.errors.specs.declared.ReadCounts.{ReadCounts}

-- ---- states

abbrev pub no_tree : Tree
no_tree = record { nodes = 0; attributes = 0; first = 0; inner = 0; above_root = 0; attributes_before_it = 0 }

-- there is no head yet
abbrev pub first : ℕ → ℕ → ℕ → State
first room cap mode = record {
  done = false;
  slot = 0;
  note = zero_note;
  room = room;
  cap = cap;
  mode = mode;
  stage = Fresh;
  opened = unopened Whole;
  cur = first_cursor;
  tree = no_tree;
  notes = no_notes;
}

-- the head o is opened
abbrev pub started_by : State → Opened → State
started_by st o = record (first st.room st.cap st.mode) { stage = InBody; opened = o }

-- the answer is a; the note table is to be cleared from the place c on
abbrev pub clearing_at : State → ℕ → Result ReadCounts Refusal → State
clearing_at st c a = record st { done = cond (ltb c st.room) false true; slot = c; note = zero_note; stage = Clearing a }

abbrev pub clear_next : State → Result ReadCounts Refusal → State
clear_next st a = clearing_at st (cond (ltb st.slot st.room) (st.slot + 1) st.slot) a

-- a note is to be written
abbrev pub noted_by : State → Cursor → Tree → ResAnomaly → State
noted_by st c t x = record st {
  done = false;
  slot = st.notes.used;
  note = note_of x;
  stage = InBody;
  cur = c;
  tree = t;
  notes = stored_in st.notes (kind_index x);
}

abbrev pub done_answer : Tree → ℕ → Result ReadCounts Refusal
done_answer t n = Ok (record { starts = t.nodes; nodes = kept_nodes t; attributes = kept_attributes t; notes = n })

-- the answer of a state that has one is r
abbrev pub Answers : State → Result ReadCounts Refusal → Type 0
Answers st r = (a : Result ReadCounts Refusal) → st.stage ≡ Clearing a → r ≡ a

-- ---- ends

-- a refusal: zeros all over
pub record Refuses (ns ats : List ℕ) (st : State) (x : Refusal) (r : State) (ns' ats' : List ℕ) : Type 0 where
  pub state : r ≡ clearing_at st 0 (Err x)
  pub nodes : ns' ≡ replicate (length ns) 0
  pub attributes : ats' ≡ replicate (length ats) 0

-- the kept records are there, and the notes can be counted
pub record Keepable (ns ats : List ℕ) (st : State) (t : Tree) : Type 0 where
  pub nodes : node_width * kept_nodes t ≤ length ns
  pub attributes : attribute_width * kept_attributes t ≤ length ats
  pub notes : st.notes.used < 4294967296

-- a success: the kept records, and zeros behind
pub record Finishes (ns ats : List ℕ) (st : State) (t : Tree) (r : State) (ns' ats' : List ℕ) : Type 0 where
  pub state : r ≡ clearing_at st st.notes.used (done_answer t st.notes.used)
  pub nodes : ns' ≡ take (node_width * kept_nodes t) ns ++ replicate (length ns - node_width * kept_nodes t) 0
  pub attributes : ats' ≡ take (attribute_width * kept_attributes t) ats ++ replicate (length ats - attribute_width * kept_attributes t) 0

-- the tables are as they were, and a note is to be written
pub record Writes (ns ats : List ℕ) (st : State) (c : Cursor) (t : Tree) (x : ResAnomaly) (r : State) (ns' ats' : List ℕ) : Type 0 where
  pub state : r ≡ noted_by st c t x
  pub nodes : ns' ≡ ns
  pub attributes : ats' ≡ ats

-- a note within its cap
pub record Noted (ns ats : List ℕ) (st : State) (c : Cursor) (t : Tree) (x : ResAnomaly) (r : State) (ns' ats' : List ℕ) : Type 0 where
  pub place : st.notes.used < st.room → Writes ns ats st c t x r ns' ats'
  pub none : st.room ≤ st.notes.used → Refuses ns ats st (NotesFull st.room) r ns' ats'

-- ---- the outcome

abbrev pub room_of : List ℕ → List ℕ → State → Room
room_of ns ats st = record { nodes = length ns; attributes = length ats; notes = st.room; cap = st.cap; mode = st.mode }

-- with zeros from the place c on
abbrev pub cleared : List NoteOf → ℕ → ℕ → List NoteOf
cleared os c room = take c os ++ replicate (room - c) zero_note

abbrev pub outcome_by : Stage → List ℕ → Lent → List ℕ → List ℕ → List NoteOf → State → List ℕ → Reading
outcome_by Fresh f lent ns ats os st stack = reading (room_of ns ats st) f lent
outcome_by InBody f lent ns ats os st stack =
    let t = tables_in f st.opened.head in
    let N = names_in st.mode st.opened.head t lent in
    final_of (room_of ns ats st)
    (on_from (room_of ns ats st) N st.opened t (body_in f st.opened.head) ns ats st.cur st.tree stack (take st.notes.used os)
    st.notes.counts)
outcome_by (Clearing a) f lent ns ats os st stack =
    record { answer = a; nodes = ns; attributes = ats; notes = cleared os (st.slot + 1) st.room }

abbrev pub outcome : List ℕ → Lent → List ℕ → List ℕ → List NoteOf → State → List ℕ → Reading
outcome f lent ns ats os st stack = outcome_by st.stage f lent ns ats os st stack

-- ---- what holds at the head of the loop

pub record OnWay (f : List ℕ) (lent : Lent) (ns ats : List ℕ) (st : State) (stack : List ℕ) : Type 0 where
  pub ready : Ready (tables_in f st.opened.head) lent st.opened
  pub within : Within st.opened (body_in f st.opened.head) st.cur
  pub tied : Tied ns ats st.tree stack
  pub chained : Chained (key_by st.opened.head (tables_in f st.opened.head) lent) ns ats st.tree
  pub budget : st.tree.nodes + st.tree.attributes + steps (body_in f st.opened.head) st.cur ≤ 400000000
  pub few : st.notes.used + steps (body_in f st.opened.head) st.cur ≤ 400000000
  pub stored : st.notes.used ≤ st.room

pub record StateOk (f : List ℕ) (lent : Lent) (ns ats : List ℕ) (st : State) : Type 0 where
  pub stack : List ℕ
  pub on_way : st.stage ≡ InBody → OnWay f lent ns ats st stack

-- a fresh state has at most 20 steps for each byte, and 15 for the head, before it
abbrev pub left_by : Stage → List ℕ → State → ℕ
left_by Fresh f st = 20 * length f + 15 + st.room + 1
left_by InBody f st = steps (body_in f st.opened.head) st.cur + st.room + 1
left_by (Clearing a) f st = st.room - st.slot

abbrev pub steps_left : List ℕ → Lent → State → ℕ
steps_left f lent st = left_by st.stage f st

pub record Advanced (f : List ℕ) (lent : Lent) (ns ats : List ℕ) (st : State) (g : StateOk f lent ns ats st) (r : State) (ns' ats' : List ℕ) : Type 0 where
  pub good : StateOk f lent ns' ats' r
  pub room : r.room ≡ st.room
  pub due : r.done ≡ false → (r.slot < r.room) × (steps_left f lent r < steps_left f lent st)
  pub goes : r.done ≡ false → (os : List NoteOf) → length os ≡ st.room
      → outcome f lent ns ats os st g.stack ≡ outcome f lent ns' ats' (set os r.slot r.note) r good.stack
  pub ends : r.done ≡ true → (a : Result ReadCounts Refusal) → Answers r a → (os : List NoteOf) → length os ≡ st.room
      → outcome f lent ns ats os st g.stack ≡ record { answer = a; nodes = ns'; attributes = ats'; notes = os }

abbrev pub AdvanceKeeps : List ℕ → Lent → List ℕ → List ℕ → State → State → List ℕ → List ℕ → Type 0
AdvanceKeeps f lent ns ats st r ns' ats' = (g : StateOk f lent ns ats st) → Advanced f lent ns ats st g r ns' ats'

-- ---- the whole

-- what a call of `read` leaves, as one equation
pub record Leaves (f : List ℕ) (lent : Lent) (ns ats : List ℕ) (os : List NoteOf) (cap mode : ℕ) (r : Result ReadCounts Refusal) (ns' ats' : List ℕ)
    (os' : List NoteOf) : Type 0 where
  pub whole : record { answer = r; nodes = ns'; attributes = ats'; notes = os' } ≡ reading (room_in ns ats os cap mode) f lent
