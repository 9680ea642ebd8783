-- Note 12 says the depth: docs/FORMAT.md, W25, W27. For proofs/Structure/Theorem.antt.
--
--   walked-said      of the notes that a cap keeps of a whole walk, a note 12 says the depth at its end
--   walked-twelve    there is one where the depth is not 0 and the cap keeps one; walked_none: there is none where the depth is 0
use Prim.Native.Nat.{ℕ, ◌<◌}
use native.Mathlib.Omega.{arith}
use mathlib.Core.Path.{◌≡◌, refl, sym, ◌∙◌, ap}
use mathlib.Core.List.{List, [], ◌∷◌, ◌++◌, map, cons≢nil}
use mathlib.Core.Bool.{Bool, true, false, not}
use borrow.Author.Tests.{ne_eqb, eq-eqb}
use lib.ListN.{length, take, length-take}
use lib.Dec.{eqb}
use Rattle.anomaly.specs.Note.{kind_index, note_of}
use Rattle.anomaly.specs.Kept.{kept_notes, of_kind as of_place}
use Rattle.anomaly.specs.declared.ResAnomaly.{ResAnomaly}
use Rattle.anomaly.specs.declared.ResAnomaly.TheVariants.{UnclosedElements}
use Rattle.anomaly.proofs.Laws.{kept_notes-of-kind}
use Rattle.anomaly.proofs.Numbers.{kind-place}
use Rattle.events.specs.declared.Event.{Event}
use Rattle.events.specs.declared.Event.TheVariants.{Note}
use Rattle.events.specs.Events.{event_if}
use Rattle.claims.specs.Counts.{depth_from, event_notes}
use Rattle.claims.specs.Shape.{count_of_kind, DepthSaid}
use Rattle.claims.proofs.Events.NotesAndOthers.{event_notes-append}
use Rattle.claims.proofs.Events.KeptNotes.{All, all_append, all_of, kept-all, number_of}
use Rattle.claims.proofs.Structure.StartDepth.{NotTwelve, depth-append}
use Rattle.claims.proofs.Structure.WalkDepth.{WalkedFile}

-- ---- the end of a walk

abbrev pub last_note : ℕ → List Event
last_note d = event_if (not (eqb d 0)) (Note (UnclosedElements d))

last-depth : (d n : ℕ) (b : Bool) → depth_from d (event_if b (Note (UnclosedElements n))) ≡ d
last-depth d n true = refl
last-depth d n false = refl

pub walked-depth : (es : List Event) (w : WalkedFile es) → depth_from 0 es ≡ w.depth
walked-depth es w =
    ap (depth_from 0) w.split ∙ depth-append 0 w.body (last_note w.depth)
    ∙ last-depth (depth_from 0 w.body) w.depth (not (eqb w.depth 0)) ∙ sym w.told

pub walked-notes : (es : List Event) (w : WalkedFile es) → event_notes es ≡ event_notes w.body ++ event_notes (last_note w.depth)
walked-notes es w = ap event_notes w.split ∙ event_notes-append w.body (last_note w.depth)

-- ---- a note 12 says the depth

abbrev Says : ℕ → ResAnomaly → Type 0
Says d x = (note_of x).kind ≡ 12 → (note_of x).a ≡ d

last_says : (d : ℕ) (b : Bool) → All (Says d) (event_notes (event_if b (Note (UnclosedElements d))))
unfolding note_of
last_says d true = (λ e. refl, tt)
last_says d false = tt

said_of : (d : ℕ) (l : List ResAnomaly) → All (Says d) l → DepthSaid d (map note_of l)
said_of d [] h = tt
said_of d (x ∷ l) h = (h.0, said_of d l h.1)

module _ (es : List Event) (w : WalkedFile es) (cap : ℕ) where
  pub walked-said : DepthSaid (depth_from 0 es) (map note_of (kept_notes cap (event_notes es)))
  walked-said =
      let d = w.depth in
      rw (walked-depth es w)
      (said_of d (kept_notes cap (event_notes es)) (kept-all (Says d) cap (event_notes es) (rw (walked-notes es w)
      (all_append (Says d) (event_notes w.body) (event_notes (last_note d)) (all_of NotTwelve (Says d) (λ x h e. absurd (h e)) (event_notes w.body) w.plain)
      (last_says d (not (eqb d 0)))))))

-- ---- and there is one

-- of the place of note 12 there is none among these
plain-none : (d : ℕ) (l : List ResAnomaly) → All NotTwelve l → of_place (kind_index (UnclosedElements d)) l ≡ []
unfolding of_place note_of
plain-none d [] h = refl
plain-none d (x ∷ l) h =
    rw (sym (kind-place x (UnclosedElements d)) ∙ ne_eqb (note_of x).kind 12 h.0, plain-none d l h.1)

place-append : (k : ℕ) (a b : List ResAnomaly) → of_place k a ≡ [] → of_place k (a ++ b) ≡ of_place k b
unfolding of_place
place-append k [] b e = refl
place-append k (x ∷ a) b e = go (eqb (kind_index x) k) refl (place-append k a b)
  where
    go : (c : Bool) → eqb (kind_index x) k ≡ c → (of_place k a ≡ [] → of_place k (a ++ b) ≡ of_place k b) → of_place k ((x ∷ a) ++ b) ≡ of_place k b
    go true q rest = absurd (cons≢nil (rw q at e))
    go false q rest = rw q (rest (rw q at e))

last-place : (d : ℕ) (b : Bool) → of_place (kind_index (UnclosedElements d)) (event_notes (event_if b (Note (UnclosedElements d))))
    ≡ event_notes (event_if b (Note (UnclosedElements d)))
unfolding of_place
last-place d true = rw (eq-eqb (kind_index (UnclosedElements d)) (kind_index (UnclosedElements d)) refl)
last-place d false = refl

module _ (es : List Event) (w : WalkedFile es) (cap : ℕ) where
  -- how many notes 12 a cap keeps
  twelve : (b : Bool) → not (eqb w.depth 0) ≡ b
      → count_of_kind 12 (map note_of (kept_notes cap (event_notes es))) ≡ length (take cap (event_notes (event_if b (Note (UnclosedElements w.depth)))))
  unfolding note_of
  twelve b q =
      let d = w.depth in
      let u = UnclosedElements d in
      number_of u (kept_notes cap (event_notes es)) ∙ ap length (kept_notes-of-kind cap (kind_index u) (event_notes es))
      ∙ ap (λ (l : List ResAnomaly). length (take cap l))
      (ap (of_place (kind_index u)) (walked-notes es w)
      ∙ place-append (kind_index u) (event_notes w.body) (event_notes (last_note d)) (plain-none d (event_notes w.body) w.plain)
      ∙ last-place d (not (eqb d 0)) ∙ ap (λ (x : Bool). event_notes (event_if x (Note u))) q)

  pub walked-twelve : 0 < cap → (depth_from 0 es ≡ 0 → ⊥) → count_of_kind 12 (map note_of (kept_notes cap (event_notes es))) ≡ 1
  walked-twelve c n =
      let q : eqb w.depth 0 ≡ false = ne_eqb w.depth 0 (λ z. n (walked-depth es w ∙ z)) in
      twelve true (ap not q) ∙ rw length-take (omega arith)

  pub walked_none : depth_from 0 es ≡ 0 → ◌≡◌ {A = ℕ} (count_of_kind 12 (map note_of (kept_notes cap (event_notes es)))) 0
  walked_none z =
      let q : eqb w.depth 0 ≡ true = eq-eqb w.depth 0 (sym (walked-depth es w) ∙ z) in
      twelve false (ap not q) ∙ rw length-take (omega arith)
