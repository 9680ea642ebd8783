-- Room that always suffices: docs/FORMAT.md, L1. Of a file of any length, whatever the names and the cap.
--
--   suffices               with `nodes_for` and `attributes_for` its length and `places_for` the cap, it is not refused with 8, 9 or 10
--   read-suffices          the same of every result that the promise of `read` allows
--   listing-suffices       the room of a listing is such of every file that it reads
--   read-listed-suffices   so `read_listed`, as a listing calls it, is never without a place
--
-- Why: `file-few` (proofs/Room/FileCounts.antt) for nodes and attributes; `kept_notes-length-le` (anomaly) for notes.
use Rattle.std.specs.Prelude.{Result, Ok, Err}
use Prim.Native.Nat.{ℕ, ◌+◌, ◌-◌, ◌*◌, ◌≤◌, ◌<◌}
use native.Mathlib.Omega.{arith}
use mathlib.Core.Path.{◌≡◌, refl, sym, subst}
use mathlib.Core.List.{List, [], ◌∷◌}
use mathlib.Core.Bool.{true, false}
use borrow.Author.Tests.{lt-ltb}
use lib.ListN.{length, get_or, length-drop, length-append, length-set, replicate, length-replicate}
use lib.Dec.{eqb}
use Rattle.anomaly.specs.Note.{kind_index}
use Rattle.anomaly.specs.Kept.{counted, kept_from}
use Rattle.anomaly.specs.declared.Note.{Note as NoteOf}
use Rattle.anomaly.specs.declared.ResAnomaly.{ResAnomaly}
use Rattle.anomaly.proofs.Laws.{kept_from-due, kept_from-past, kept_notes-length-le}
use Rattle.errors.proofs.Laws.{numbers_of-unique}
use Rattle.errors.specs.Refusal.{refusal_number}
use Rattle.errors.specs.declared.Refusal.{Refusal}
use Rattle.records.specs.Limits.{listed_file}
use Rattle.system_types.specs.Names.{Lent, lends, names_from}
use Rattle.head.specs.declared.Opened.{Opened}
use Rattle.head.specs.Head.{opened_of, tables_in, body_in, head_len, pool_refusal, map_refusal, refusal_of}
use Rattle.head.specs.declared.Asker.TheVariants as askers
use Rattle.head.specs.Entry.{reading_at, Check, passes, fails, first_of, cap_check, is_mode, mode_check, entry_checks}
use Rattle.events.specs.declared.Event.{Event}
use Rattle.events.specs.Events.{names_in, file_events}
use Rattle.walk.specs.Settle.{Room, Tables, Out, going, refused, nothing_yet}
use Rattle.records.specs.Words.{node_width, attribute_width}
use Rattle.walk.specs.Reading.{reading, reading_by, settled_in, room_in, zero_note, Reads}
use Rattle.listing_back.specs.Back.{is_listed}
use Rattle.errors.specs.declared.ReadCounts.{ReadCounts}
use Rattle.errors.specs.declared.Refusal.TheVariants.{MissingRoot}
use Rattle.head.specs.declared.HeadEnd.{HeadEnd}
use Rattle.head.specs.declared.HeadEnd.TheVariants.{Whole, TooSmall, HeaderSize, PoolShort, MapShort}
use Rattle.head.specs.declared.PoolPart.{PoolPart}
use Rattle.head.specs.declared.PoolPart.TheVariants.{Skipped, Header, Offsets, Styles, Data}
use Rattle.head.specs.declared.MapPart.{MapPart}
use Rattle.head.specs.declared.MapPart.TheVariants.{MapHeader, MapIds}
use Rattle.claims.specs.Counts.{opens_in, attributes_in, event_notes}
use Rattle.claims.specs.Room.{is_full, HasRoom, nodes_for, attributes_for, places_for, listing_room}
use Rattle.claims.proofs.Settle.ByEvent.{InOut, idle-still, Goes, Stops, settle-by}
use Rattle.claims.proofs.Room.FileCounts.{file-few}
use Rattle.claims.proofs.Events.Refusals.{AllRefuse, file-refuses}
use Rattle.claims.proofs.Settle.EntryChecks.{Under, first_under, length-under, entry-under}

-- ---- events put away

-- no want of a place, and a listing can say it
abbrev Fine : Refusal → Type 0
Fine x = (is_full x ≡ false) × (is_listed (refusal_number x) ≡ true)

-- there is room for all that is to come
record Enough (r : Room) (es : List Event) (t : Tables) : Type 0 where
  nodes : length t.nodes + node_width * opens_in es ≤ r.nodes
  attributes : length t.attributes + attribute_width * attributes_in es ≤ r.attributes
  fine : AllRefuse Fine es
  notes : length t.notes + length (kept_from r.cap t.counts (event_notes es)) ≤ r.notes

-- a note that is due is one of those to come
due-length : (r : Room) (t : Tables) (x : ResAnomaly) (es : List Event) → get_or t.counts (kind_index x) 0 < r.cap
    → length (kept_from r.cap t.counts (x ∷ event_notes es)) ≡ 1 + length (kept_from r.cap (counted t.counts (kind_index x)) (event_notes es))
due-length r t x es d = rw (kept_from-due r.cap t.counts x (event_notes es) (lt-ltb (get_or t.counts (kind_index x) 0) r.cap d)) (omega arith)

goes : (r : Room) → Goes r (Enough r)
goes r = record {
  idles = λ t e es i h. record {
    nodes = omega (arith, h.nodes);
    attributes = omega (arith, h.attributes);
    fine = h.fine.1;
    notes = rw (← (idle-still e i).notes es) h.notes;
  };
  closes = λ t es h. record { nodes = omega (arith, h.nodes); attributes = omega (arith, h.attributes); fine = h.fine.1; notes = h.notes };
  opens = λ t es n f l g h. record {
    nodes = rw length-append (omega (arith, h.nodes));
    attributes = omega (arith, h.attributes);
    fine = h.fine.1;
    notes = h.notes;
  };
  keeps = λ t es p a some g h. record {
    nodes = rw length-set (omega (arith, h.nodes));
    attributes = rw length-append (omega (arith, h.attributes));
    fine = h.fine.1;
    notes = h.notes;
  };
  notes = λ t es x d g h. record {
    nodes = omega (arith, h.nodes);
    attributes = omega (arith, h.attributes);
    fine = h.fine.1;
    notes = rw length-append (omega (arith, due-length r t x es d, h.notes));
  };
  past = λ t es x d h. record {
    nodes = omega (arith, h.nodes);
    attributes = omega (arith, h.attributes);
    fine = h.fine.1;
    notes = rw (← kept_from-past r.cap t.counts x (event_notes es) d) h.notes;
  };
}

stops : (r : Room) (S : Refusal → Type 0) → ((x : Refusal) → Fine x → S x) → Stops r (Enough r) S
stops r S fine = record {
  refuses = λ t es x h. fine x h.fine.0;
  nodes = λ t es n f l g h. absurd (let z : ⊥ = omega (arith, h.nodes) in z);
  attributes = λ t es p a g h. absurd (let z : ⊥ = omega (arith, h.attributes) in z);
  notes = λ t es x d g h. absurd (let z : ⊥ = omega (arith, due-length r t x es d, h.notes) in z);
}

-- ---- the refusals of a file are such

pool-fine : (e : PoolPart) → Fine (pool_refusal e)
unfolding refusal_number
pool-fine (Skipped at) = (refl, refl)
pool-fine (Header at) = (refl, refl)
pool-fine (Offsets at) = (refl, refl)
pool-fine (Styles at) = (refl, refl)
pool-fine (Data at) = (refl, refl)

map-fine : (e : MapPart) → Fine (map_refusal e)
unfolding refusal_number
map-fine (MapHeader at) = (refl, refl)
map-fine (MapIds at) = (refl, refl)

head-fine : (e : HeadEnd) → Fine (refusal_of e)
unfolding refusal_number
head-fine Whole = (refl, refl)
head-fine (MapShort e) = map-fine e
head-fine (PoolShort e) = pool-fine e
head-fine (TooSmall n) = (refl, refl)
head-fine (HeaderSize n) = (refl, refl)

root-fine : Fine MissingRoot
unfolding refusal_number
root-fine = (refl, refl)

-- ---- a reading

-- A of every answer, where there is room: S of its refusals
module _ (S : Refusal → Type 0) (A : Result ReadCounts Refusal → Type 0) (done : (c : ReadCounts) → A (Ok c)) (refuses : (x : Refusal) → S x → A (Err x))
    (fine : (x : Refusal) → Fine x → S x) where
  final-under : (r : Room) (o : Out) (c : Check) → InOut (Enough r []) S o → Under S c → A (reading_by r o c).answer
  final-under r (going t) passes p q = done _
  final-under r (refused y) passes p q = refuses y p
  final-under r o (fails y) p q = refuses y q

  module _ (r : Room) (f : List ℕ) (lent : Lent) (nodes : nodes_for (length f) ≤ r.nodes) (attributes : attributes_for (length f) ≤ r.attributes)
      (notes : places_for r.cap ≤ r.notes) where
    settled : (o : Opened) → InOut (Enough r []) S (settled_in r f lent o)
    settled o =
        let t = tables_in f o.head in
        let N = names_in r.mode o.head t lent in
        let b = body_in f o.head in
        let few = file-few N o t b in
        let l : length b ≡ length f - (8 + head_len o.head) = length-drop (8 + head_len o.head) f in
        settle-by N.repeats r (Enough r) S (goes r) (stops r S fine) nothing_yet (file_events N o t b) (record {
          nodes = omega (arith, few.opens);
          attributes = omega (arith, few.attributes);
          fine = file-refuses Fine N root-fine o t b (λ e q. head-fine e);
          notes = omega (arith, kept_notes-length-le r.cap (event_notes (file_events N o t b)));
        })

    answered : Under S (first_of (entry_checks f lent (reading_at r.cap r.mode))) → A (reading r f lent).answer
    unfolding reading
    answered entry = final-under r (settled_in r f lent (opened_of f)) (first_of (entry_checks f lent (reading_at r.cap r.mode))) (settled (opened_of f)) entry

-- ---- it is not refused for want of a place

abbrev Other : Refusal → Type 0
Other x = is_full x ≡ false

pub suffices : (r : Room) (f : List ℕ) (lent : Lent) → nodes_for (length f) ≤ r.nodes → attributes_for (length f) ≤ r.attributes
    → places_for r.cap ≤ r.notes → HasRoom (reading r f lent).answer
unfolding refusal_number
suffices r f lent nodes attributes notes =
    answered Other HasRoom (λ c. tt) (λ x h. h) (λ x h. h.0) r f lent nodes attributes notes
    (entry-under Other f lent (askers.Reading r.cap r.mode) refl refl (λ k. refl) refl)

-- ---- with no names, a listing can say what it is refused with

abbrev Listed : Refusal → Type 0
Listed x = is_listed (refusal_number x) ≡ true

abbrev pub SaidBy : Result ReadCounts Refusal → Type 0
SaidBy (Ok c) = Unit {0}
SaidBy (Err x) = is_listed (refusal_number x) ≡ true

cap-listed : (cap mode : ℕ) → eqb cap 0 ≡ false → Under Listed (cap_check (askers.Reading cap mode))
cap-listed cap mode e = rw e tt

mode-listed : (cap mode : ℕ) → is_mode mode ≡ true → Under Listed (mode_check (askers.Reading cap mode))
mode-listed cap mode e = rw e tt

pub said-by : (r : Room) (f : List ℕ) → nodes_for (length f) ≤ r.nodes → attributes_for (length f) ≤ r.attributes → places_for r.cap ≤ r.notes
    → eqb r.cap 0 ≡ false → is_mode r.mode ≡ true → SaidBy (reading r f (lends [] [])).answer
unfolding names_from refusal_number
said-by r f nodes attributes notes some known =
    answered Listed SaidBy (λ c. tt) (λ x h. h) (λ x h. h.1) r f (lends [] []) nodes attributes notes
    (first_under Listed (entry_checks f (lends [] []) (reading_at r.cap r.mode))
    (length-under Listed f refl, (cap-listed r.cap r.mode some, (tt, (mode-listed r.cap r.mode known, (tt, tt))))))

-- ---- a call

pub read-suffices : (f : List ℕ) (lent : Lent) (ns ats : List ℕ) (os : List NoteOf) (cap mode : ℕ) (a : Result ReadCounts Refusal) (ns' ats' : List ℕ) (os' : List NoteOf)
    → nodes_for (length f) ≤ length ns → attributes_for (length f) ≤ length ats → places_for cap ≤ length os
    → Reads f lent ns ats os cap mode a ns' ats' os' → HasRoom a
read-suffices f lent ns ats os cap mode a ns' ats' os' n m o h =
    subst HasRoom (sym (numbers_of-unique _ _ h.answer)) (suffices (room_in ns ats os cap mode) f lent n m o)

-- ---- a listing

pub listing-suffices : (n : ℕ) → n ≤ listed_file
    → (nodes_for n ≤ listing_room.nodes) × (attributes_for n ≤ listing_room.attributes) × (places_for listing_room.cap ≤ listing_room.notes)
listing-suffices n short = (omega arith, omega arith, omega arith)

pub read-listed-suffices : (f ns ats : List ℕ) (a : Result ReadCounts Refusal) (ns' ats' : List ℕ) (os' : List NoteOf)
    → length f ≤ listed_file → length ns ≡ listing_room.nodes → length ats ≡ listing_room.attributes
    → Reads f (lends [] []) ns ats (replicate listing_room.notes zero_note) listing_room.cap listing_room.mode a ns' ats' os' → HasRoom a
read-listed-suffices f ns ats a ns' ats' os' short n m h =
    let s = listing-suffices (length f) short in
    read-suffices f (lends [] []) ns ats _ listing_room.cap listing_room.mode a ns' ats' os' (omega (arith, s.0)) (omega (arith, s.1))
    (omega (arith, s.2, length-replicate listing_room.notes zero_note)) h
