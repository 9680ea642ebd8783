-- The insertion theorem (docs/FORMAT.md, P3), of the promise `reading`: a file without a note, and the file with foreign chunks at some of its places.
-- Of calls: proofs/Calls/Readings.antt. No contract cites this file.
--
--   insertion-head    the longer file has the same head, byte for byte, and so the same names; head-whole: it is whole
--   nothing-dropped   all starts of the file are kept
--   insertion         THE THEOREM: its reading is that of the file, with the notes of the chunks
--   insertion-room    places for the records that the first reading kept, and for the notes, are room
--   insertion-same    in tables as long as the first ones, every word is the same
use Rattle.std.specs.Prelude.{Ok}
use Prim.Native.Nat.{ℕ, ◌+◌, ◌*◌, ◌≤◌}
use native.Mathlib.Omega.{arith}
use mathlib.Core.Path.{◌≡◌, ◌∙◌, ap}
use mathlib.Core.List.{List, [], map}
use lib.ListN.{length, take, length-map, length-take}
use Rattle.anomaly.specs.Note.{note_of}
use Rattle.anomaly.specs.Kept.{kept_from, kept_notes}
use Rattle.anomaly.specs.declared.ResAnomaly.{ResAnomaly}
use Rattle.errors.specs.declared.ReadCounts.{ReadCounts}
use Rattle.records.specs.Limits.{file_limit}
use Rattle.records.specs.Words.{node_width, attribute_width}
use Rattle.system_types.specs.Names.{Lent}
use Rattle.head.specs.declared.HeadEnd.TheVariants.{Whole}
use Rattle.head.specs.Head.{opened_of, head_len, tables_in, body_in}
use Rattle.events.specs.declared.Event.{Event}
use Rattle.events.specs.Events.{Names, file_events}
use Rattle.walk.specs.Settle.{Room}
use Rattle.walk.specs.Reading.{Reading, reading}
use Rattle.claims.specs.Insertion.{ForeignChunk, places_in, inserted, inserted_file, place_notes, with_notes}
use Rattle.claims.specs.Room.{HasRoom}
use Rattle.claims.specs.Counts.{event_notes}
use Rattle.claims.specs.Readers.{names_for, events_of}
use Rattle.claims.specs.Shape.{count_of_kind}
use Rattle.claims.proofs.Events.NotesAndOthers.{others_in}
use Rattle.claims.proofs.Settle.Success.{success, none_kept, kept_nodes, kept_attributes}
use Rattle.claims.proofs.Insertion.InsertedFile.{longer-others, longer-notes}
use Rattle.claims.proofs.Insertion.SameTree as both

module _ (r : Room) (f : List ℕ) (lent : Lent) (c : ReadCounts) (done : (reading r f lent).answer ≡ Ok c) (none : c.notes ≡ 0) where
  abbrev N : Names
  N = names_for r.mode f lent

  abbrev t : List ℕ
  t = tables_in f (opened_of f).head

  abbrev l : List ℕ
  l = body_in f (opened_of f).head

  abbrev es : List Event
  es = events_of r.mode f lent

  no-notes : event_notes es ≡ []
  no-notes =
      let kept = kept_notes r.cap (event_notes es) in
      let few = length-take c.notes (reading r f lent).notes in
      none_kept r.cap (success r f lent c done).cap (event_notes es)
      (omega (arith, none, few, ap length (both.noted r f lent c done), length-map kept note_of))

  no-twelve : ◌≡◌ {A = ℕ} (count_of_kind 12 (take c.notes (reading r f lent).notes)) 0
  unfolding kept_from
  no-twelve =
      ap (count_of_kind 12) (both.noted r f lent c done) ∙ ap (λ (m : List ResAnomaly). count_of_kind 12 (map note_of (kept_notes r.cap m))) no-notes

  pub head-whole : (opened_of f).end ≡ Whole
  head-whole = both.head-whole r f lent c done

  pub insertion-head : (places : List (List ForeignChunk)) → (opened_of (inserted_file places f) ≡ opened_of f)
      × (take (8 + head_len (opened_of f).head) (inserted_file places f) ≡ take (8 + head_len (opened_of f).head) f)
  insertion-head = both.head-same r f lent c done

  pub nothing-dropped : c.nodes ≡ c.starts
  nothing-dropped = both.all-kept r f lent c done no-twelve

  module _ (places : List (List ForeignChunk)) (few : length places ≤ places_in f) (limit : length (inserted_file places f) ≤ file_limit) (r' : Room)
      (one : 1 ≤ r'.cap) (alike : r'.mode ≡ r.mode) where
    abbrev es' : List Event
    es' = file_events N (opened_of f) t (inserted places l)

    others : others_in es' ≡ others_in es
    others = longer-others N (opened_of f) t head-whole l no-notes places few

    notes : event_notes es' ≡ place_notes places
    notes = longer-notes N (opened_of f) t head-whole l no-notes places few

    pub insertion : HasRoom (reading r' (inserted_file places f) lent).answer
        → reading r' (inserted_file places f) lent ≡ with_notes r' (reading r f lent) c (kept_notes r'.cap (place_notes places))
    insertion room =
        both.same-tree r f lent c done places limit r' one alike others room
        ∙ ap (λ (m : List ResAnomaly). with_notes r' (reading r f lent) c (kept_notes r'.cap m)) notes

    pub insertion-room : node_width * c.nodes ≤ r'.nodes → attribute_width * c.attributes ≤ r'.attributes
        → length (kept_notes r'.cap (place_notes places)) ≤ r'.notes → HasRoom (reading r' (inserted_file places f) lent).answer
    insertion-room n a m = both.same-room r f lent c done places limit r' one alike others no-twelve n a (rw notes m)

    pub insertion-same : r'.nodes ≡ r.nodes → r'.attributes ≡ r.attributes → HasRoom (reading r' (inserted_file places f) lent).answer
        → ((reading r' (inserted_file places f) lent).nodes ≡ (reading r f lent).nodes)
        × ((reading r' (inserted_file places f) lent).attributes ≡ (reading r f lent).attributes)
    insertion-same n a room =
        let e = insertion room in
        let again = both.table-again r f lent c done in (
          ap (λ (x : Reading). x.nodes) e ∙ ap (λ (m : ℕ). kept_nodes m (reading r f lent) c) n ∙ again.0,
          ap (λ (x : Reading). x.attributes) e ∙ ap (λ (m : ℕ). kept_attributes m (reading r f lent) c) a ∙ again.1,
        )
