-- Readers that break the promise: docs/FORMAT.md, P5. Each theorem is of every reader of its sort (specs/Readers.antt).
--
--   meets-some               the promise can be met: by the definition itself; refuser-sorts, inventor-sorts, blurred-kinds: there are readers of each sort
--   refuses-all-broken       a reader that refuses every file
--   constant-broken          one that gives the same result to every file, with any names, tables and cap fixed
--   constant-on-read-broken  one that gives the same result to every file that can be read
--   leaves-nodes-broken, leaves-attributes-broken, leaves-notes-broken   one that leaves a table as it was; clears-..-broken: one that leaves zeros in it
--   first-start-broken       one that gives the same to two files that agree up to the end of the first start
--   invents-starts-broken    one that gives some file more starts than elements open in it
--   invents-notes-broken     one that gives some file more notes than its cap keeps
--   wrong-kinds-broken       one that gives some file notes of other kinds, be they as many
-- The witnesses are file S and its relatives (proofs/Cases/Table.antt).
use Rattle.std.specs.Prelude.{Result, Ok, Err}
use Prim.Native.Nat.{ℕ, zero, suc, ◌+◌, ◌≤◌, ◌<◌}
use native.Mathlib.Omega.{arith}
use mathlib.Core.Path.{◌≡◌, refl, sym, ◌∙◌, ap}
use mathlib.Core.List.{List, [], ◌∷◌, ◌++◌, map}
use mathlib.Core.Bool.{Bool, true, false, cond}
use borrow.Author.Tests.{lt-ltb}
use lib.ListN.{length, take, get_or, replicate, length-replicate}
use Rattle.anomaly.specs.Note.{note_of}
use Rattle.anomaly.specs.Kept.{kept_notes}
use Rattle.anomaly.specs.declared.Note.{Note}
use Rattle.errors.specs.Refusal.{numbers_of, refusal_number}
use Rattle.errors.specs.declared.Numbers.{Numbers}
use Rattle.errors.specs.declared.Refusal.TheVariants.{TooLargeError, NotesOff, ModeError}
use Rattle.errors.specs.declared.ReadCounts.{ReadCounts}
use Rattle.records.specs.Words.{node_parent, attribute_prefix, merged}
use Rattle.records.specs.Limits.{file_limit}
use Rattle.system_types.specs.Names.{Lent, lends, names_of}
use Rattle.head.specs.Head.{opened_of}
use Rattle.head.specs.declared.Asker.TheVariants.{Reading as Asking}
use Rattle.head.specs.Entry.{passes, fails, first_of, length_check, keeps_none, names_check_by, is_mode}
use Rattle.events.specs.Events.{file_events}
use Rattle.walk.specs.Settle.{Room, Out, settle}
use Rattle.walk.specs.Reading.{Reading, refuses, reading, reading_by, settled_in, zero_note, room_in, Reads}
use Rattle.claims.specs.Insertion.{reading_left}
use Rattle.claims.specs.Readers.{all_below, Call, Reader, Meets, events_of, kinds_of, RefusesAll, Constant, ConstantOnRead, StopsAtStart}
use Rattle.claims.specs.Readers.{LeavesNodes, LeavesAttributes, LeavesNotes, ClearsNodes, ClearsAttributes, ClearsNotes}
use Rattle.claims.specs.Counts.{opens_in, event_notes}
use Rattle.claims.proofs.Cases.Table.{file_s, head_s, start_s, end_s, no_nodes, no_attributes, none, note, one_node, room}
use Rattle.claims.proofs.Calls.Readings.{left-reading}
use Rattle.claims.proofs.Structure.Theorem.{starts-right, notes-many, notes-kept}
use Rattle.claims.proofs.Broken.Witnesses.{call-S, call-88, call-with-end, call-without}
use Rattle.claims.proofs.Broken.Witnesses.{read-S, read-88, ends-S, read-with-end, read-without}
use Rattle.errors.specs.declared.Refusal.{Refusal}

pub meets-some : Meets (λ f lent ns ats os cap mode. reading (room_in ns ats os cap mode) f lent)
meets-some f lent ns ats os cap mode call = record { answer = refl; nodes = refl; attributes = refl; notes = refl }

-- ---- the witnesses

zeros-below : (n : ℕ) → all_below 256 (replicate n 0) ≡ true
zeros-below zero = refl
zeros-below (suc n) = zeros-below n

-- a file past the limit, and the empty one, have different answers, whatever is lent
long-number : (r : Room) (f : List ℕ) (lent : Lent) → file_limit < length f → ◌≡◌ {A = ℕ} (numbers_of (reading r f lent).answer).refusal 2
unfolding reading length_check numbers_of refusal_number
long-number r f lent h = rw (lt-ltb file_limit (length f) h)

empty-number : (r : Room) (lent : Lent) → ◌≡◌ {A = ℕ} (numbers_of (reading r [] lent).answer).refusal 2 → ⊥
unfolding reading length_check numbers_of refusal_number opened_of file_events settle
empty-number r lent = go (keeps_none (Asking r.cap r.mode)) (names_of lent) (is_mode r.mode)
  where
    out : Out
    out = settled_in r [] lent (opened_of [])

    go : (b : Bool) (n : Result (Unit {0}) ℕ) (m : Bool)
        → ◌≡◌ {A = ℕ}
        (numbers_of (reading_by r out (first_of (length_check [] ∷ cond b (fails NotesOff) passes ∷ names_check_by n ∷ cond m passes (fails (ModeError r.mode)) ∷ passes ∷ []))).answer
        ).refusal 2 → ⊥
    go true n m e = let z : ◌≡◌ {A = ℕ} 27 2 = e in omega arith
    go false (Err k) m e = let z : ◌≡◌ {A = ℕ} 7 2 = e in omega arith
    go false (Ok tt) false e = let z : ◌≡◌ {A = ℕ} 16 2 = e in omega arith
    go false (Ok tt) true e = let z : ◌≡◌ {A = ℕ} 1 2 = e in omega arith

-- ---- what the promise says of starts and notes

module _ (f : List ℕ) (lent : Lent) (ns ats : List ℕ) (os : List Note) (cap mode : ℕ) where
  starts-le : (a : Result ReadCounts Refusal) (ns' ats' : List ℕ) (os' : List Note) → Reads f lent ns ats os cap mode a ns' ats' os'
      → (numbers_of a).starts ≤ opens_in (events_of mode f lent)
  unfolding numbers_of
  starts-le (Err x) ns' ats' os' m = omega arith
  starts-le (Ok c) ns' ats' os' m = omega (arith, starts-right f lent ns ats os cap mode c ns' ats' os' m)

  notes-le : (a : Result ReadCounts Refusal) (ns' ats' : List ℕ) (os' : List Note) → Reads f lent ns ats os cap mode a ns' ats' os'
      → (numbers_of a).notes ≤ length (kept_notes cap (event_notes (events_of mode f lent)))
  unfolding numbers_of
  notes-le (Err x) ns' ats' os' m = omega arith
  notes-le (Ok c) ns' ats' os' m = omega (arith, notes-many f lent ns ats os cap mode c ns' ats' os' m)

-- ---- the readers

module _ (R : Reader) (meets : Meets R) where
  -- asked with tables of zeros, as the witnesses are
  abbrev asked : List ℕ → Reading
  asked f = R f (lends [] []) (no_nodes 3) (no_attributes 3) none 8 merged

  asked-reading : (f : List ℕ) → Call f (lends [] []) (no_nodes 3) (no_attributes 3) none 8 merged → asked f ≡ reading room f (lends [] [])
  asked-reading f c = left-reading f (lends [] []) (no_nodes 3) (no_attributes 3) none 8 merged _ _ _ _ (meets f (lends [] []) (no_nodes 3) (no_attributes 3) none 8 merged c)

  -- of S, and of S without its end
  of-S : asked file_s ≡ one_node 1 0 none
  of-S = asked-reading file_s call-S ∙ read-S

  of-88 : asked (take 88 file_s) ≡ one_node 1 1 (note 12 1 ∷ zero_note ∷ zero_note ∷ zero_note ∷ [])
  of-88 = asked-reading (take 88 file_s) call-88 ∙ read-88

  pub refuses-all-broken : RefusesAll R → ⊥
  unfolding numbers_of
  refuses-all-broken h = h file_s (lends [] []) (no_nodes 3) (no_attributes 3) none 8 merged call-S (ap (λ (x : Reading). (numbers_of x.answer).refusal) of-S)

  -- none of the witnesses' tables holds zeros alone afterwards, as it did before
  nodes-stored : (asked file_s).nodes ≡ no_nodes 3 → ⊥
  nodes-stored h = let z = ap (λ (l : List ℕ). get_or l node_parent 0) (sym h ∙ ap (λ (x : Reading). x.nodes) of-S) in omega arith

  attributes-stored : (asked file_s).attributes ≡ no_attributes 3 → ⊥
  attributes-stored h = let z = ap (λ (l : List ℕ). get_or l attribute_prefix 0) (sym h ∙ ap (λ (x : Reading). x.attributes) of-S) in omega arith

  notes-stored : (asked (take 88 file_s)).notes ≡ none → ⊥
  notes-stored h = let z = ap (λ (l : List Note). (get_or l 0 zero_note).kind) (sym h ∙ ap (λ (x : Reading). x.notes) of-88) in omega arith

  pub leaves-nodes-broken : LeavesNodes R → ⊥
  leaves-nodes-broken h = nodes-stored (h file_s (lends [] []) (no_nodes 3) (no_attributes 3) none 8 merged call-S)

  pub leaves-attributes-broken : LeavesAttributes R → ⊥
  leaves-attributes-broken h = attributes-stored (h file_s (lends [] []) (no_nodes 3) (no_attributes 3) none 8 merged call-S)

  pub leaves-notes-broken : LeavesNotes R → ⊥
  leaves-notes-broken h = notes-stored (h (take 88 file_s) (lends [] []) (no_nodes 3) (no_attributes 3) none 8 merged call-88)

  pub clears-nodes-broken : ClearsNodes R → ⊥
  clears-nodes-broken h = nodes-stored (h file_s (lends [] []) (no_nodes 3) (no_attributes 3) none 8 merged call-S)

  pub clears-attributes-broken : ClearsAttributes R → ⊥
  clears-attributes-broken h = attributes-stored (h file_s (lends [] []) (no_nodes 3) (no_attributes 3) none 8 merged call-S)

  pub clears-notes-broken : ClearsNotes R → ⊥
  clears-notes-broken h = notes-stored (h (take 88 file_s) (lends [] []) (no_nodes 3) (no_attributes 3) none 8 merged call-88)

  pub constant-broken : (lent : Lent) (ns ats : List ℕ) (os : List Note) (cap mode : ℕ) → Call [] lent ns ats os cap mode → Constant R lent ns ats os cap mode → ⊥
  constant-broken lent ns ats os cap mode call h = go (file_limit + 1) refl
    where
      go : (n : ℕ) → n ≡ file_limit + 1 → ⊥
      go n e =
          let many : length {A = ℕ} (replicate n 0) ≡ n = length-replicate {A = ℕ} n 0 in
          let long : Call (replicate n 0) lent ns ats os cap mode = record {
            file = record { below = zeros-below n; short = omega (arith, many) };
            name_words = call.name_words;
            area_bytes = call.area_bytes;
            node_words = call.node_words;
            attribute_words = call.attribute_words;
            kinds = call.kinds;
            firsts = call.firsts;
            seconds = call.seconds;
            cap_word = call.cap_word;
            mode_word = call.mode_word;
          } in
          let r = room_in ns ats os cap mode in
          let same = ap (λ (x : Reading). (numbers_of x.answer).refusal) (h [] (replicate n 0) call long) in
          let a = ap (λ (x : Numbers). x.refusal) (meets [] lent ns ats os cap mode call).answer in
          let b = ap (λ (x : Numbers). x.refusal) (meets (replicate n 0) lent ns ats os cap mode long).answer in
          empty-number r lent (sym a ∙ same ∙ b ∙ long-number r (replicate n 0) lent (omega (arith, many)))

  pub constant-on-read-broken : ConstantOnRead R → ⊥
  unfolding numbers_of
  constant-on-read-broken h =
      let read : Reading → ℕ = λ x. (numbers_of x.answer).refusal in
      let same = h file_s (take 88 file_s) (lends [] []) (no_nodes 3) (no_attributes 3) none 8 merged call-S call-88 (ap read read-S) (ap read read-88) in
      let e = ap (λ (x : Reading). (numbers_of x.answer).notes) (sym of-S ∙ same ∙ of-88) in
      omega arith

  pub first-start-broken : StopsAtStart R → ⊥
  unfolding numbers_of
  first-start-broken h =
      let same = h (head_s ++ start_s) end_s [] (lends [] []) (no_nodes 3) (no_attributes 3) none 8 merged call-with-end call-without ends-S in
      let a = asked-reading ((head_s ++ start_s) ++ end_s) call-with-end ∙ read-with-end in
      let b = asked-reading ((head_s ++ start_s) ++ []) call-without ∙ read-without in
      let e = ap (λ (x : Reading). (numbers_of x.answer).notes) (sym a ∙ same ∙ b) in
      omega arith

  -- some file: one that has fewer than it is given, or notes of other kinds
  module _ (f : List ℕ) (lent : Lent) (ns ats : List ℕ) (os : List Note) (cap mode : ℕ) (call : Call f lent ns ats os cap mode) where
    pub invents-starts-broken : opens_in (events_of mode f lent) < (numbers_of (R f lent ns ats os cap mode).answer).starts → ⊥
    invents-starts-broken h = omega (arith, starts-le f lent ns ats os cap mode _ _ _ _ (meets f lent ns ats os cap mode call))

    pub invents-notes-broken : length (kept_notes cap (event_notes (events_of mode f lent))) < (numbers_of (R f lent ns ats os cap mode).answer).notes → ⊥
    invents-notes-broken h = omega (arith, notes-le f lent ns ats os cap mode _ _ _ _ (meets f lent ns ats os cap mode call))

    pub wrong-kinds-broken : (c : ReadCounts) → (R f lent ns ats os cap mode).answer ≡ Ok c
        → (kinds_of (take c.notes (R f lent ns ats os cap mode).notes) ≡ kinds_of (map note_of (kept_notes cap (event_notes (events_of mode f lent)))) → ⊥) → ⊥
    wrong-kinds-broken c e h =
        h (ap kinds_of (notes-kept f lent ns ats os cap mode c _ _ _ (rw e at (meets f lent ns ats os cap mode call))))

-- ---- there are readers of each sort

-- refuses all
abbrev refuser : Reader
refuser f lent ns ats os cap mode = refuses (room_in ns ats os cap mode) TooLargeError

pub refuser-sorts : RefusesAll refuser × Constant refuser (lends [] []) [] [] [] 0 0 × ConstantOnRead refuser × StopsAtStart refuser
    × ClearsNodes refuser × ClearsAttributes refuser × ClearsNotes refuser
unfolding numbers_of refusal_number
refuser-sorts = (
  λ f lent ns ats os cap mode call e. (let z : ◌≡◌ {A = ℕ} 2 0 = e in omega arith),
  λ f f' call call'. refl,
  λ f f' lent ns ats os cap mode call call' r r'. refl,
  λ p x y lent ns ats os cap mode call call' first. refl,
  λ f lent ns ats os cap mode call. refl,
  λ f lent ns ats os cap mode call. refl,
  λ f lent ns ats os cap mode call. refl,
)

-- leaves all as it was, and counts more than there is
abbrev inventor : Reader
inventor f lent ns ats os cap mode =
    let es = events_of mode f lent in
    reading_left (Ok (record { starts = suc (opens_in es); nodes = 0; attributes = 0; notes = suc (length (kept_notes cap (event_notes es))) })) ns ats os

module _ (f : List ℕ) (lent : Lent) (ns ats : List ℕ) (os : List Note) (cap mode : ℕ) where
  pub inventor-sorts : LeavesNodes inventor × LeavesAttributes inventor × LeavesNotes inventor
      × (opens_in (events_of mode f lent) < (numbers_of (inventor f lent ns ats os cap mode).answer).starts)
      × (length (kept_notes cap (event_notes (events_of mode f lent))) < (numbers_of (inventor f lent ns ats os cap mode).answer).notes)
  unfolding numbers_of
  inventor-sorts = (
    λ f lent ns ats os cap mode call. refl,
    λ f lent ns ats os cap mode call. refl,
    λ f lent ns ats os cap mode call. refl,
    omega arith,
    omega arith,
  )

-- the right numbers, and 0 for the kind of each note
abbrev blurred : Reader
blurred f lent ns ats os cap mode =
    let r = reading (room_in ns ats os cap mode) f lent in
    reading_left r.answer r.nodes r.attributes (map (λ (x : Note). record { kind = 0; a = x.a; b = x.b }) r.notes)

pub blurred-kinds : kinds_of (take 1 (blurred (take 88 file_s) (lends [] []) (no_nodes 3) (no_attributes 3) none 8 merged).notes) ≡ 0 ∷ []
blurred-kinds = ap (λ (x : Reading). kinds_of (take 1 (map (λ (x : Note). record { kind = 0; a = x.a; b = x.b }) x.notes))) read-88
