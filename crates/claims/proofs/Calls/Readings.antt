-- What a call of `read` left, as a reading, and the insertion theorem of calls: docs/FORMAT.md, P3. No contract cites this file.
--
--   left-reading     what a call left is the reading; reading-left: a reading is what a call left
--   insertion-read   THE THEOREM, of whatever two results the promise `Reads` allows for a file and the longer one
--   insertion-read-same   in tables of the same lengths, the tables are the same, whole
--   insertion-read-room   places for the records that the first call kept, and for twice the cap of notes, are room
use Rattle.std.specs.Prelude.{Result, Ok}
use Prim.Native.Nat.{ℕ, ◌*◌, ◌≤◌}
use native.Mathlib.Nat.{le_trans}
use mathlib.Core.Path.{◌≡◌, refl, sym, ◌∙◌, ap, subst}
use mathlib.Core.List.{List}
use lib.ListN.{length, replicate, length-replicate}
use Rattle.anomaly.specs.Kept.{kept_notes}
use Rattle.anomaly.specs.declared.Note.{Note as NoteOf}
use Rattle.errors.specs.declared.ReadCounts.{ReadCounts}
use Rattle.errors.specs.Refusal.{numbers_of}
use Rattle.errors.proofs.Laws.{numbers_of-unique}
use Rattle.records.specs.Limits.{file_limit}
use Rattle.records.specs.Words.{node_width, attribute_width}
use Rattle.system_types.specs.Names.{Lent}
use Rattle.walk.specs.Reading.{Reading, reading, room_in, zero_note, Reads}
use Rattle.claims.specs.Insertion.{ForeignChunk, places_in, inserted_file, place_notes, with_notes, reading_left}
use Rattle.claims.specs.Room.{HasRoom}
use Rattle.claims.proofs.Insertion.ForeignChunks.{place_notes-room}
use Rattle.claims.proofs.Insertion.Theorem.{insertion, insertion-room, insertion-same}
use Rattle.errors.specs.declared.Refusal.{Refusal}

module _ (f : List ℕ) (lent : Lent) (ns ats : List ℕ) (os : List NoteOf) (cap mode : ℕ) (a : Result ReadCounts Refusal) (ns' ats' : List ℕ) (os' : List NoteOf) where
  pub left-reading : Reads f lent ns ats os cap mode a ns' ats' os' → reading_left a ns' ats' os' ≡ reading (room_in ns ats os cap mode) f lent
  left-reading p = rw (numbers_of-unique a _ p.answer, p.nodes, p.attributes, p.notes)

-- with k places for notes
pub reading-left : (f : List ℕ) (lent : Lent) (ns ats : List ℕ) (k cap mode : ℕ) (R : Reading)
    → R ≡ reading (record { nodes = length ns; attributes = length ats; notes = k; cap = cap; mode = mode }) f lent → (a : Result ReadCounts Refusal) → R.answer ≡ a
    → Reads f lent ns ats (replicate k zero_note) cap mode a R.nodes R.attributes R.notes
reading-left f lent ns ats k cap mode R is a e =
    let same : R ≡ reading (room_in ns ats (replicate k zero_note) cap mode) f lent =
    is ∙ ap (λ (n : ℕ). reading (record { nodes = length ns; attributes = length ats; notes = n; cap = cap; mode = mode }) f lent) (sym (length-replicate k zero_note)) in
    record {
      answer = ap numbers_of (sym e) ∙ ap (λ (x : Reading). numbers_of x.answer) same;
      nodes = ap (λ (x : Reading). x.nodes) same;
      attributes = ap (λ (x : Reading). x.attributes) same;
      notes = ap (λ (x : Reading). x.notes) same;
    }

module _ (f : List ℕ) (lent : Lent) (ns ats : List ℕ) (os : List NoteOf) (cap mode : ℕ) (c : ReadCounts) (ns₁ ats₁ : List ℕ) (os₁ : List NoteOf)
    (first : Reads f lent ns ats os cap mode (Ok c) ns₁ ats₁ os₁) (none : c.notes ≡ 0) where
  abbrev shorter : Reading
  shorter = reading (room_in ns ats os cap mode) f lent

  was : reading_left (Ok c) ns₁ ats₁ os₁ ≡ shorter
  was = left-reading f lent ns ats os cap mode (Ok c) ns₁ ats₁ os₁ first

  done₁ : shorter.answer ≡ Ok c
  done₁ = sym (ap (λ (x : Reading). x.answer) was)

  module _ (places : List (List ForeignChunk)) (few : length places ≤ places_in f) (limit : length (inserted_file places f) ≤ file_limit) (ns' ats' : List ℕ)
      (os' : List NoteOf) (cap' : ℕ) (one : 1 ≤ cap') (a : Result ReadCounts Refusal) (ns₂ ats₂ : List ℕ) (os₂ : List NoteOf)
      (second : Reads (inserted_file places f) lent ns' ats' os' cap' mode a ns₂ ats₂ os₂) where
    r₂ : reading_left a ns₂ ats₂ os₂ ≡ reading (room_in ns' ats' os' cap' mode) (inserted_file places f) lent
    r₂ = left-reading (inserted_file places f) lent ns' ats' os' cap' mode a ns₂ ats₂ os₂ second

    -- THE THEOREM, of two calls
    pub insertion-read : HasRoom a
        → reading_left a ns₂ ats₂ os₂ ≡ with_notes (room_in ns' ats' os' cap' mode) (reading_left (Ok c) ns₁ ats₁ os₁) c (kept_notes cap' (place_notes places))
    insertion-read room =
        let room' : HasRoom (reading (room_in ns' ats' os' cap' mode) (inserted_file places f) lent).answer =
        subst (λ (x : Reading). HasRoom x.answer) r₂ room in
        r₂ ∙ insertion (room_in ns ats os cap mode) f lent c done₁ none places few limit (room_in ns' ats' os' cap' mode) one refl room'
        ∙ ap (λ (x : Reading). with_notes (room_in ns' ats' os' cap' mode) x c (kept_notes cap' (place_notes places))) (sym was)

    -- in tables of the same lengths, the tables are the same, whole
    pub insertion-read-same : length ns' ≡ length ns → length ats' ≡ length ats → HasRoom a → (ns₂ ≡ ns₁) × (ats₂ ≡ ats₁)
    insertion-read-same n m room =
        let room' : HasRoom (reading (room_in ns' ats' os' cap' mode) (inserted_file places f) lent).answer =
        subst (λ (x : Reading). HasRoom x.answer) r₂ room in
        let e = insertion-same (room_in ns ats os cap mode) f lent c done₁ none places few limit (room_in ns' ats' os' cap' mode) one refl n m room' in
        (second.nodes ∙ e.0 ∙ sym first.nodes, second.attributes ∙ e.1 ∙ sym first.attributes)

    -- places for the records that the first call kept, and for twice the cap of notes, are room
    pub insertion-read-room : node_width * c.nodes ≤ length ns' → attribute_width * c.attributes ≤ length ats' → 2 * cap' ≤ length os' → HasRoom a
    insertion-read-room n m k =
        subst (λ (x : Reading). HasRoom x.answer) (sym r₂)
        (insertion-room (room_in ns ats os cap mode) f lent c done₁ none places few limit (room_in ns' ats' os' cap' mode) one refl n m
        (le_trans (place_notes-room cap' places) k))
