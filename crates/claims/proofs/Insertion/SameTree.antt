-- A file that was read, and the file with foreign chunks put in: where both make the same events but for their notes, the tree stays.
-- docs/FORMAT.md, P3, W25 to W29. For proofs/Insertion/Theorem.antt and proofs/Damaged/Theorem.antt. No contract cites this file.
--
--   head-whole, head-same   the head of a file that was read is whole, and the longer file has it, byte for byte
--   noted                   the notes of the reading
--   all-kept                where note 12 is not among them, nothing is dropped
--   table-again             what was kept of a table, in one of the same length, is the whole table
--   events-longer           what the longer file makes
--   same-tree               where both make the same but for notes, the longer file's reading is that of the file, with its own notes
--   same-room               places for the records that were kept, and for the notes, are room
use Rattle.std.specs.Prelude.{Ok}
use Prim.Native.Nat.{ℕ, ◌+◌, ◌*◌, ◌≤◌}
use native.Mathlib.Omega.{arith}
use mathlib.Core.Path.{◌≡◌, refl, sym, ◌∙◌, ap}
use mathlib.Core.List.{List, map}
use mathlib.Core.Bool.{true≢false}
use lib.ListN.{length, take}
use lib.Seq.{take_at}
use Rattle.anomaly.specs.Note.{note_of}
use Rattle.anomaly.specs.Kept.{kept_notes}
use Rattle.errors.specs.declared.ReadCounts.{ReadCounts}
use Rattle.records.specs.Limits.{file_limit}
use Rattle.records.specs.Words.{node_width, attribute_width}
use Rattle.system_types.specs.Names.{Lent}
use Rattle.head.specs.declared.HeadEnd.TheVariants.{Whole}
use Rattle.head.specs.Head.{opened_of, head_len, tables_in, body_in}
use Rattle.head.specs.Entry.{is_mode}
use Rattle.events.specs.declared.Event.{Event}
use Rattle.events.specs.Events.{Names, file_events}
use Rattle.walk.specs.Settle.{Room, Out, going, refused, settle, nothing_yet}
use Rattle.walk.specs.Reading.{Reading, none_dropped, dropped_in, nodes_kept, attributes_kept, succeeds, final_of, settled_in, reading}
use Rattle.claims.specs.Insertion.{ForeignChunk, inserted, inserted_file, with_notes}
use Rattle.claims.specs.Room.{HasRoom}
use Rattle.claims.specs.Counts.{event_notes}
use Rattle.claims.specs.Readers.{names_for, events_of}
use Rattle.claims.specs.Shape.{count_of_kind}
use Rattle.claims.proofs.Events.NotesAndOthers.{others_in}
use Rattle.claims.proofs.Settle.StoreAll.{Going, Settles, empty, settled, SameOrFull, settle-same, same-roomy}
use Rattle.claims.proofs.Settle.Success.{Success, KeptThere, success, reading-of, succeeds-same, kept_nodes, kept_attributes, again-nodes, again-attributes}
use Rattle.claims.proofs.Structure.Tables.{Shaped, settled-shaped, kept_in}
use Rattle.claims.proofs.Structure.WalkDepth.{file-ends}
use Rattle.claims.proofs.Structure.OpenElements.{second_none}
use Rattle.claims.proofs.Insertion.InsertedFile.{longer-opened, longer-tables, longer-body, longer-head, whole_of}

module _ (r : Room) (f : List ℕ) (lent : Lent) (c : ReadCounts) (done : (reading r f lent).answer ≡ Ok c) where
  abbrev s : Success r f lent c
  s = success r f lent c done

  abbrev N : Names
  N = names_for r.mode f lent

  abbrev t : List ℕ
  t = tables_in f (opened_of f).head

  abbrev l : List ℕ
  l = body_in f (opened_of f).head

  abbrev es : List Event
  es = events_of r.mode f lent

  told : Settles N.repeats r empty es s.tables
  told = settled N.repeats r es s.tables s.settles

  -- ---- the file

  pub head-whole : (opened_of f).end ≡ Whole
  head-whole = whole_of N (opened_of f) t l told.stay

  pub head-same : (places : List (List ForeignChunk)) → (opened_of (inserted_file places f) ≡ opened_of f)
      × (take (8 + head_len (opened_of f).head) (inserted_file places f) ≡ take (8 + head_len (opened_of f).head) f)
  head-same places = (longer-opened f s.short head-whole places, longer-head f s.short head-whole places)

  pub noted : take c.notes (reading r f lent).notes ≡ map note_of (kept_notes r.cap (event_notes es))
  noted =
      ap (λ (n : ℕ). take n (reading r f lent).notes) (ap (λ (d : ReadCounts). d.notes) (sym s.counts))
      ∙ ap (take (length s.tables.notes)) (ap (λ (x : Reading). x.notes) s.whole)
      ∙ take_at s.tables.notes _ (length s.tables.notes) refl ∙ told.notes

  shaped : Shaped r s.tables
  shaped = rw s.settles at (settled-shaped r N.repeats es)

  there : KeptThere s.tables
  there =
      let k = kept_in r s.tables shaped in
      record { nodes = omega (arith, k.nodes, shaped.nodes); attributes = omega (arith, k.attributes, shaped.attributes) }

  pub table-again : (kept_nodes r.nodes (reading r f lent) c ≡ (reading r f lent).nodes)
      × (kept_attributes r.attributes (reading r f lent) c ≡ (reading r f lent).attributes)
  table-again = (
    ap (λ (x : Reading). kept_nodes r.nodes x c) s.whole ∙ ap (kept_nodes r.nodes (succeeds r s.tables)) (sym s.counts)
        ∙ again-nodes r s.tables there ∙ sym (ap (λ (x : Reading). x.nodes) s.whole),
    ap (λ (x : Reading). kept_attributes r.attributes x c) s.whole ∙ ap (kept_attributes r.attributes (succeeds r s.tables)) (sym s.counts)
        ∙ again-attributes r s.tables there ∙ sym (ap (λ (x : Reading). x.attributes) s.whole),
  )

  -- ---- without note 12

  module _ (none : ◌≡◌ {A = ℕ} (count_of_kind 12 (take c.notes (reading r f lent).notes)) 0) where
    -- no second element is open in the end, so that none is dropped
    no_second : dropped_in s.tables.stack ≡ none_dropped
    no_second =
        second_none N.repeats r es s.tables (file-ends N (opened_of f) t l) s.settles (omega (arith, s.cap))
        (ap (count_of_kind 12) (told.notes ∙ sym noted) ∙ none)

    -- so all starts are kept
    pub all-kept : c.nodes ≡ c.starts
    all-kept = rw (← s.counts, no_second)

    all-nodes : length s.tables.nodes ≡ node_width * c.nodes
    all-nodes =
        let e : length s.tables.nodes ≡ node_width * nodes_kept s.tables = rw no_second (omega (arith, shaped.nodes)) in
        e ∙ ap (λ (d : ReadCounts). node_width * d.nodes) s.counts

    all-attributes : length s.tables.attributes ≡ attribute_width * c.attributes
    all-attributes =
        let e : length s.tables.attributes ≡ attribute_width * attributes_kept s.tables = rw no_second (omega (arith, shaped.attributes)) in
        e ∙ ap (λ (d : ReadCounts). attribute_width * d.attributes) s.counts

  -- ---- the longer file

  module _ (places : List (List ForeignChunk)) (limit : length (inserted_file places f) ≤ file_limit) (r' : Room) (one : 1 ≤ r'.cap)
      (alike : r'.mode ≡ r.mode) where
    abbrev es' : List Event
    es' = file_events N (opened_of f) t (inserted places l)

    pub events-longer : events_of r.mode (inserted_file places f) lent ≡ es'
    events-longer =
        rw (
          longer-opened f s.short head-whole places,
          longer-tables f s.short head-whole places,
          longer-body f s.short head-whole places,
        )

    longer : reading r' (inserted_file places f) lent ≡ final_of r' (settle N.repeats r' nothing_yet es')
    longer = reading-of r' (inserted_file places f) lent limit one s.good (ap is_mode alike ∙ s.mode) ∙ ap (final_of r') same
      where
        same : settled_in r' (inserted_file places f) lent (opened_of (inserted_file places f)) ≡ settle N.repeats r' nothing_yet es'
        same =
            rw (
              alike,
              longer-opened f s.short head-whole places,
              longer-tables f s.short head-whole places,
              longer-body f s.short head-whole places,
            )

    module _ (others : others_in es' ≡ others_in es) where
      pub same-tree : HasRoom (reading r' (inserted_file places f) lent).answer
          → reading r' (inserted_file places f) lent ≡ with_notes r' (reading r f lent) c (kept_notes r'.cap (event_notes es'))
      same-tree room =
          go (settle N.repeats r' nothing_yet es') longer (settle-same N.repeats r es s.tables s.settles r' es' others)
        where
          go : (x : Out) → reading r' (inserted_file places f) lent ≡ final_of r' x → SameOrFull N.repeats r es s.tables s.settles r' es' others x
              → reading r' (inserted_file places f) lent ≡ with_notes r' (reading r f lent) c (kept_notes r'.cap (event_notes es'))
          go (refused x) e full = absurd (true≢false (sym full ∙ (rw e at room)))
          go (going u) e b =
              e ∙ succeeds-same r r' s.tables u (kept_notes r'.cap (event_notes es')) b.tree b.notes there
              ∙ ap (λ (d : ReadCounts). with_notes r' (succeeds r s.tables) d (kept_notes r'.cap (event_notes es'))) s.counts
              ∙ ap (λ (x : Reading). with_notes r' x c (kept_notes r'.cap (event_notes es'))) (sym s.whole)

      pub same-room : ◌≡◌ {A = ℕ} (count_of_kind 12 (take c.notes (reading r f lent).notes)) 0 → node_width * c.nodes ≤ r'.nodes
          → attribute_width * c.attributes ≤ r'.attributes → length (kept_notes r'.cap (event_notes es')) ≤ r'.notes
          → HasRoom (reading r' (inserted_file places f) lent).answer
      same-room none n a m =
          rw longer
          (go (settle N.repeats r' nothing_yet es')
          (same-roomy N.repeats r es s.tables s.settles r' es' others (rw (all-nodes none) n) (rw (all-attributes none) a) m))
        where
          go : (x : Out) → Going x → HasRoom (final_of r' x).answer
          go (going u) g = tt
          go (refused x) g = absurd g
