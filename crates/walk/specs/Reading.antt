-- What a reading leaves: the answer and every word of the three lent tables. docs/FORMAT.md, W29, B1, B2, B5, B7, B8, B15.
--
--   reading     THE PROMISE of `read`: what a file, with these names, leaves in tables of this room
--   refuses     a refusal: zeros all over
--   succeeds    the kept records and the notes, and zeros behind them
--   dropped_in   what is dropped: the outermost element inside the first that is never closed, and all starts after it
--   Reads       the same as what a call promises: the numbers of its answer (B7), and its three tables
use Rattle.std.specs.Prelude.{ℕ, ◌+◌, ◌-◌, ◌*◌, ◌/◌, ◌≡◌, List, [], ◌∷◌, ◌++◌, length, take, get_or, replicate, Result, Ok, Err}
use Rattle.anomaly.specs.declared.Note.{Note as NoteOf}
use Rattle.errors.specs.declared.Refusal.{Refusal}
use Rattle.errors.specs.Refusal.{numbers_of}
use Rattle.head.specs.declared.Opened.{Opened}
use Rattle.head.specs.Head.{opened_of, tables_in, body_in}
use Rattle.head.specs.Entry.{reading_at, Check, passes, fails, first_of, entry_checks}
use Rattle.events.specs.Events.{names_in, file_events}
use Rattle.records.specs.Words.{node_width, node_first, attribute_width}
use Rattle.system_types.specs.Names.{Lent}
use Rattle.walk.specs.Settle.{Room, Tables, Out, going, refused, settle, nothing_yet}
use Rattle.errors.specs.declared.ReadCounts.{ReadCounts}

pub record Reading : Type 0 where
  pub answer : Result ReadCounts Refusal
  pub nodes : List ℕ
  pub attributes : List ℕ
  pub notes : List NoteOf

abbrev pub zero_note : NoteOf
zero_note = record { kind = 0; a = 0; b = 0 }

-- ---- a refusal

abbrev pub refuses : Room → Refusal → Reading
refuses r x = record { answer = Err x; nodes = replicate r.nodes 0; attributes = replicate r.attributes 0; notes = replicate r.notes zero_note }

-- ---- a success

-- what is dropped: no node, or the node of this number and all after it, though they had their places (W29, B5)
pub data Dropped : Type 0 where
  none_dropped : Dropped
  dropped_from : ℕ → Dropped

-- Told by the numbers of the elements that are open at the end, the innermost first, so that the file's first element comes last. Where no other
-- is open, none is dropped; else the one before the last, which was opened next after the first, is the first that is dropped (W29).
abbrev pub dropped_in : List ℕ → Dropped
dropped_in [] = none_dropped
dropped_in (k ∷ []) = none_dropped
dropped_in (k ∷ j ∷ []) = dropped_from k
dropped_in (k ∷ j ∷ i ∷ r) = dropped_in (j ∷ i ∷ r)

-- of n nodes: all, or those before the first that is dropped
abbrev pub nodes_kept_by : ℕ → Dropped → ℕ
nodes_kept_by n none_dropped = n
nodes_kept_by n (dropped_from k) = k

-- of n attributes: all, or those that were stored before that node was, whose record among the nodes has the number of its first attribute
abbrev pub attributes_kept_by : List ℕ → ℕ → Dropped → ℕ
attributes_kept_by nodes n none_dropped = n
attributes_kept_by nodes n (dropped_from k) = get_or nodes (node_width * k + node_first) 0

abbrev pub nodes_kept : Tables → ℕ
nodes_kept t = nodes_kept_by (length t.nodes / node_width) (dropped_in t.stack)

abbrev pub attributes_kept : Tables → ℕ
attributes_kept t = attributes_kept_by t.nodes (length t.attributes / attribute_width) (dropped_in t.stack)

abbrev pub succeeds : Room → Tables → Reading
succeeds r t = record {
  answer = Ok (record { starts = length t.nodes / node_width; nodes = nodes_kept t; attributes = attributes_kept t; notes = length t.notes });
  nodes = take (node_width * nodes_kept t) t.nodes ++ replicate (r.nodes - node_width * nodes_kept t) 0;
  attributes = take (attribute_width * attributes_kept t) t.attributes ++ replicate (r.attributes - attribute_width * attributes_kept t) 0;
  notes = t.notes ++ replicate (r.notes - length t.notes) zero_note;
}

abbrev pub final_of : Room → Out → Reading
final_of r (refused x) = refuses r x
final_of r (going t) = succeeds r t

-- ---- the promise

-- the events of a file whose head is o, settled
abbrev pub settled_in : Room → List ℕ → Lent → Opened → Out
settled_in r f lent o =
    let t = tables_in f o.head in
    let N = names_in r.mode o.head t lent in
    settle N.repeats r nothing_yet (file_events N o t (body_in f o.head))

-- the entry checks come before the file is read
abbrev pub reading_by : Room → Out → Check → Reading
reading_by r o passes = final_of r o
reading_by r o (fails x) = refuses r x

unfoldable pub reading : Room → List ℕ → Lent → Reading
reading r f lent = reading_by r (settled_in r f lent (opened_of f)) (first_of (entry_checks f lent (reading_at r.cap r.mode)))

-- the room of tables with these contents before the call
abbrev pub room_in : List ℕ → List ℕ → List NoteOf → ℕ → ℕ → Room
room_in nodes attributes notes cap mode = record { nodes = length nodes; attributes = length attributes; notes = length notes; cap = cap; mode = mode }

-- what a call of `read` leaves: the numbers of the answer (B7), and each lent table whole
pub record Reads (f : List ℕ) (lent : Lent) (ns ats : List ℕ) (os : List NoteOf) (cap mode : ℕ) (r : Result ReadCounts Refusal) (ns' ats' : List ℕ)
    (os' : List NoteOf) : Type 0 where
  pub answer : numbers_of r ≡ numbers_of (reading (room_in ns ats os cap mode) f lent).answer
  pub nodes : ns' ≡ (reading (room_in ns ats os cap mode) f lent).nodes
  pub attributes : ats' ≡ (reading (room_in ns ats os cap mode) f lent).attributes
  pub notes : os' ≡ (reading (room_in ns ats os cap mode) f lent).notes
