-- The structure of every successful reading: docs/FORMAT.md, W25 to W29, B9 to B15. Of every result of success that the promise allows.
--
--   structured     its nodes are the first of the elements that open, in order; a parent is an earlier node; the runs cover the attributes in turn;
--                  each attribute has the node of its run for its owner; the notes are those that the cap keeps; note 12 says the depth, and is there
--                  exactly where that is not 0; with depth 0 no element is dropped, and from depth 2 on some are (specs/Shape.antt, `Structured`)
--   stays, walk    no event of its file refuses, and they are those of a whole walk
--   starts-right   it counts the elements that open; notes-many, notes-kept: its notes are exactly the file's, of each kind the first `cap`
use Rattle.std.specs.Prelude.{Ok}
use Prim.Native.Nat.{ℕ, ◌+◌, ◌-◌, ◌*◌, ◌/◌, ◌≤◌, ◌<◌}
use native.Mathlib.Omega.{arith}
use mathlib.Core.Path.{◌≡◌, refl, sym, ◌∙◌, ap}
use mathlib.Core.List.{List, ◌++◌, map}
use lib.ListN.{length, take, length-map, get_or-append}
use lib.Seq.{get_or-take, length-take-le, take_at}
use Rattle.anomaly.specs.Note.{note_of}
use Rattle.anomaly.specs.Kept.{kept_notes}
use Rattle.anomaly.specs.declared.Note.{Note}
use Rattle.anomaly.specs.declared.ResAnomaly.{ResAnomaly}
use Rattle.errors.specs.declared.ReadCounts.{ReadCounts}
use Rattle.head.specs.Head.{opened_of, tables_in, body_in}
use Rattle.events.specs.declared.Event.{Event}
use Rattle.records.specs.Words.{node_width, node_name, node_fixed, node_parent, node_first, node_count, node_line, attribute_width, attribute_owner}
use Rattle.records.specs.Repeats.{Rule}
use Rattle.system_types.specs.Names.{Lent}
use Rattle.walk.specs.Settle.{Room, Tables, settle, nothing_yet}
use Rattle.walk.specs.Reading.{Reading, reading, Dropped, none_dropped, dropped_from, dropped_in, nodes_kept_by, nodes_kept, attributes_kept, room_in, Reads}
use Rattle.claims.specs.Counts.{opens_in, event_notes, depth_from}
use Rattle.claims.specs.Readers.{names_for, events_of}
use Rattle.claims.specs.Shape.{word, attribute_word, Descends, Runs, Owns, Structured}
use Rattle.claims.proofs.Structure.Words.{place-lt}
use Rattle.claims.proofs.Structure.Shape.{DroppedBelow, dropped-below, run-le, covered}
use Rattle.claims.proofs.Structure.Tables.{Shaped, kept_in}
use Rattle.claims.proofs.Structure.Done.{DoneBy, done-by, done-shaped}
use Rattle.claims.proofs.Structure.StartCount.{settled-starts}
use Rattle.claims.proofs.Events.KeptNotes.{kept-number}
use Rattle.claims.proofs.Settle.StoreCases.{AllStay}
use Rattle.claims.proofs.Settle.StoreAll.{settled}
use Rattle.claims.proofs.Structure.NodeOrder.{settled-names, settled-fixed, settled_lines}
use Rattle.claims.proofs.Structure.WalkDepth.{WalkedFile, walked-some, file-ends}
use Rattle.claims.proofs.Structure.OpenElements.{Near, near_none, SomeDropped, near-second, settled-near, settled-walked}
use Rattle.claims.proofs.Structure.NoteTwelve.{walked-said, walked-twelve, walked_none}

-- ---- the kept records, and zeros behind them

-- of tables with so many words to a record
abbrev pub Same : ℕ → List ℕ → List ℕ → ℕ → Type 0
Same width w w' n = (i k : ℕ) → i < n → k < width → word width w' i k ≡ word width w i k

pub kept_same : (width : ℕ) (w w' z : List ℕ) (n : ℕ) → width * n ≤ length w → w' ≡ take (width * n) w ++ z → Same width w w' n
kept_same width w w' z n h e i k g l =
    let s : length (take (width * n) w) ≡ width * n = length-take-le (width * n) w h in
    let p : width * i + k < width * n = place-lt width n i k g l in
    rw e (get_or-append (take (width * n) w) z 0 (width * i + k) (omega arith) ∙ get_or-take (width * n) w (width * i + k) 0 (omega arith))

parents-same : (w w' : List ℕ) (n m : ℕ) → Same node_width w w' n → n ≤ m → Descends w m → Descends w' n
parents-same w w' n m s l h i g =
    let q = s i node_parent g (omega arith) in
    let p = h i (omega arith) in
    record { first = λ z. q ∙ p.first z; later = λ z. omega (arith, p.later z) }

runs_same : (w w' : List ℕ) (n m : ℕ) → Same node_width w w' n → Runs w n m → Runs w' n m
runs_same w w' n m s h = record {
  none = h.none;
  begins = λ z. s 0 node_first z (omega arith) ∙ h.begins z;
  follows = λ i g. omega (arith, s (i + 1) node_first g (omega arith), s i node_first (omega arith) (omega arith), s i node_count (omega arith) (omega arith), h.follows i g);
  ends = λ i e. omega (arith, s i node_first (omega arith) (omega arith), s i node_count (omega arith) (omega arith), h.ends i e);
}

owns-same : (w w' v v' : List ℕ) (n m a : ℕ) → Same node_width w w' n → Same attribute_width v v' a → n ≤ m → Runs w n a → Owns w v m → Owns w' v' n
owns-same w w' v v' n m a s u l h o i j g x y =
    let p = s i node_first g (omega arith) in
    let q = s i node_count g (omega arith) in
    let e = run-le w n a (n - i - 1) i h (omega arith) in
    u j attribute_owner (omega arith) (omega arith) ∙ o i j (omega arith) (omega arith) (omega arith)

owners-in : (w v : List ℕ) (n m : ℕ) → Runs w n m → Owns w v n → (j : ℕ) → j < m → attribute_word v j attribute_owner < n
owners-in w v n m h o j l =
    let c = covered w n m j h l in
    omega (arith, o c.node j c.below c.from c.upto, c.below)

-- ---- how many are kept

module _ (r : Room) (t : Tables) (h : Shaped r t) where
  kept-some : 0 < h.n → 0 < nodes_kept t
  kept-some l = go (dropped_in t.stack) (dropped-below h.n t.stack h.stack)
    where
      go : (d : Dropped) → DroppedBelow h.n d → 0 < nodes_kept_by (length t.nodes / node_width) d
      go none_dropped b = omega (arith, h.nodes)
      go (dropped_from k) b = b.0

  kept-all : (d : ℕ) → Near d t.stack → d ≡ 0 → nodes_kept t ≡ length t.nodes / node_width
  kept-all d g z = ap (nodes_kept_by (length t.nodes / node_width)) (near_none t.stack (rw z at g))

  kept-fewer : (d : ℕ) → Near d t.stack → 2 ≤ d → nodes_kept t < length t.nodes / node_width
  kept-fewer d g z = go (dropped_in t.stack) (dropped-below h.n t.stack h.stack) (near-second d t.stack g z)
    where
      go : (x : Dropped) → DroppedBelow h.n x → SomeDropped x → nodes_kept_by (length t.nodes / node_width) x < length t.nodes / node_width
      go none_dropped b s = absurd s
      go (dropped_from k) b s = omega (arith, b.1, h.nodes)

-- ---- a reading

module _ (f : List ℕ) (lent : Lent) (ns ats : List ℕ) (os : List Note) (cap mode : ℕ) (c : ReadCounts) (ns' ats' : List ℕ) (os' : List Note)
    (reads : Reads f lent ns ats os cap mode (Ok c) ns' ats' os') where
  abbrev es : List Event
  es = events_of mode f lent

  abbrev rule : Rule
  rule = (names_for mode f lent).repeats

  abbrev r : Room
  r = room_in ns ats os cap mode

  d : DoneBy r (settle rule r nothing_yet es) c (reading r f lent)
  d = done-by f lent ns ats os cap mode c ns' ats' os' reads

  abbrev t : Tables
  t = d.tables

  pub starts-right : c.starts ≡ opens_in es
  starts-right = omega (arith, d.starts, settled-starts rule r es t d.out)

  abbrev ks : List ResAnomaly
  ks = kept_notes cap (event_notes es)

  told : t.notes ≡ map note_of ks
  told = (settled rule r es t d.out).notes

  pub notes-many : c.notes ≡ length ks
  notes-many = d.notes ∙ ap length told ∙ length-map ks note_of

  pub notes-kept : take c.notes os' ≡ map note_of ks
  notes-kept =
      ap (λ (n : ℕ). take n os') d.notes
      ∙ ap (take (length t.notes)) (reads.notes ∙ ap (λ (x : Reading). x.notes) d.whole) ∙ take_at t.notes _ (length t.notes) refl ∙ told

  pub stays : AllStay es
  stays = (settled rule r es t d.out).stay

  pub walk : WalkedFile es
  walk = settled-walked rule r es t (file-ends (names_for mode f lent) (opened_of f) (tables_in f (opened_of f).head) (body_in f (opened_of f).head)) d.out

  some-start : 0 < opens_in es
  some-start = walked-some es walk

  pub structured : Structured es cap c ns' ats' os'
  structured =
      let h = done-shaped f lent ns ats os cap mode t d.out in
      let k = kept_in r t h in
      let near = settled-near rule r es t d.out in
      let n = settled-starts rule r es t d.out in
      let sn = kept_same node_width t.nodes ns' _ (nodes_kept t) (omega (arith, k.nodes, h.nodes)) (reads.nodes ∙ ap (λ (x : Reading). x.nodes) d.whole) in
      let sa = kept_same attribute_width t.attributes ats' _ (attributes_kept t) (omega (arith, k.attributes, h.attributes))
      (reads.attributes ∙ ap (λ (x : Reading). x.attributes) d.whole) in
      let runs = runs_same t.nodes ns' (nodes_kept t) (attributes_kept t) sn k.runs in
      let owns = owns-same t.nodes ns' t.attributes ats' (nodes_kept t) h.n (attributes_kept t) sn sa k.nodes k.runs h.owns in
      let told : take (length t.notes) os' ≡ map note_of ks = sym (ap (λ (n : ℕ). take n os') d.notes) ∙ notes-kept in
      rw d.counts (record {
        starts = omega (arith, n);
        some = kept-some r t h (omega (arith, some-start, h.nodes, n));
        within = omega (arith, k.nodes, h.nodes);
        names = λ i l. sn i node_name l (omega arith) ∙ settled-names rule r es t d.out h.n i h.nodes (omega (arith, k.nodes));
        fixed = λ i l. sn i node_fixed l (omega arith) ∙ settled-fixed rule r es t d.out h.n i h.nodes (omega (arith, k.nodes));
        lines = λ i l. sn i node_line l (omega arith) ∙ settled_lines rule r es t d.out h.n i h.nodes (omega (arith, k.nodes));
        parents = parents-same t.nodes ns' (nodes_kept t) h.n sn k.nodes h.parents;
        runs = runs;
        owns = owns;
        owners = owners-in ns' ats' (nodes_kept t) (attributes_kept t) runs owns;
        many = sym d.notes ∙ notes-many;
        notes = told;
        kinds = λ i. rw told (kept-number cap i (event_notes es));
        depth = rw told (walked-said es walk cap);
        twelve = λ x y. rw told (walked-twelve es walk cap x y);
        untold = λ z. rw told (walked_none es walk cap z);
        closed = λ z. kept-all r t h (depth_from 0 es) near z;
        dropped = λ z. kept-fewer r t h (depth_from 0 es) near z;
      })
