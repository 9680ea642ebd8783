-- Foreign chunks in a row before a body: they make their notes, one for each stretch, and then the body makes what it made.
-- docs/FORMAT.md, W5, W6, P3. For proofs/Insertion/InsertedBody.antt. No contract cites this file.
--
--   notes_behind-fresh   behind a chunk that is not foreign, every stretch begins
--   events_on-front      a chunk at the front of a body
--   events_on-run        a chunk that is not foreign (`Ordinary`) makes the same whatever chunk stood before it
--   events_on-place      THE LAW of a row before a body
use Prim.Native.Nat.{ℕ, ◌<◌}
use native.Mathlib.Omega.{arith}
use mathlib.Core.Path.{◌≡◌, refl, sym, ◌∙◌, ap}
use mathlib.Core.List.{List, [], ◌∷◌, ◌++◌, append_assoc}
use mathlib.Core.Bool.{Bool, true, false, cond, not}
use borrow.Author.Tests.{ne_eqb}
use lib.ListN.{length}
use lib.Seq.{drop-append_seam}
use lib.Dec.{eqb}
use Rattle.common.proofs.Laws.{header_of-long}
use Rattle.chunk.specs.Sort.{chunk_sort}
use Rattle.anomaly.specs.declared.ResAnomaly.{ResAnomaly}
use Rattle.xml_elements.specs.declared.Chunk.{Chunk}
use Rattle.xml_elements.specs.declared.Chunk.TheVariants.{Start, End, Other, Last}
use Rattle.xml_elements.specs.declared.CutChunk.{CutChunk}
use Rattle.xml_elements.specs.declared.CutChunk.TheVariants.{CutLine, CutHead, CutGap, CutAttributes, CutTrailing, CutEnd, CutOther}
use Rattle.xml_elements.specs.declared.Turn.{Turn}
use Rattle.xml_elements.specs.declared.Turn.TheVariants.{Stop, Foreign, Met, Cut}
use Rattle.xml_elements.specs.Chunk.{turn_of, len_of, used_of}
use Rattle.xml_elements.proofs.Laws.{told}
use Rattle.xml_elements.proofs.Local.{turn_of-foreign-append}
use Rattle.events.specs.declared.Event.{Event}
use Rattle.events.specs.declared.Event.TheVariants.{Note}
use Rattle.events.specs.Events.{Names, WalkState, event_if, chunk_yield, cut_yield, yield_of, passed, chunk_next, cut_next, next_of, events_on, notes_of}
use Rattle.events.proofs.Model.{events_on-stop, events_on-step}
use Rattle.claims.specs.Insertion.{ForeignChunk, chunk_bytes, note_for, notes_behind, stretch_notes}

-- the sort of the last chunk of a row behind one of the sort k
abbrev last_sort : ℕ → List ForeignChunk → ℕ
last_sort k [] = k
last_sort k (f ∷ fs) = last_sort (chunk_sort f.header) fs

-- behind a chunk that is not foreign, every stretch begins
pub notes_behind-fresh : (fs : List ForeignChunk) (run : ℕ) → run ≡ 2 → notes_behind run fs ≡ stretch_notes fs
notes_behind-fresh [] run e = refl
notes_behind-fresh (f ∷ fs) run e = rw (ne_eqb (chunk_sort f.header) run (λ z. f.foreign (z ∙ e)))

-- one note, or none where the stretch goes on
when-note : (b : Bool) (x : ResAnomaly) (ns : List ResAnomaly) (es : List Event)
    → event_if (not b) (Note x) ++ (notes_of ns ++ es) ≡ notes_of (cond b [] (x ∷ []) ++ ns) ++ es
when-note true x ns es = refl
when-note false x ns es = refl

abbrev pub Ordinary : Turn → Type 0
Ordinary Stop = Unit {0}
Ordinary (Foreign k a u) = ⊥
Ordinary (Met x) = Unit {0}
Ordinary (Cut x) = Unit {0}

module _ (N : Names) where
  -- ---- a chunk c at the front

  pub events_on-front : (c m : List ℕ) (p : WalkState) {T : Turn} → turn_of (c ++ m) ≡ T → used_of (length (c ++ m)) T ≡ length c → 0 < length c
      → events_on N (c ++ m) p ≡ yield_of N (c ++ m) p T ++ events_on N m (next_of p T)
  events_on-front c m p e q h = events_on-step N (c ++ m) p (length c) e q h ∙ rw drop-append_seam

  -- ---- a row

  events_on-row : (fs : List ForeignChunk) (m : List ℕ) (p : WalkState)
      → events_on N (chunk_bytes fs ++ m) p ≡ notes_of (notes_behind p.run fs) ++ events_on N m (passed p (last_sort p.run fs))
  events_on-row [] m p = refl
  events_on-row (f ∷ fs) m p =
      let k = chunk_sort f.header in
      let some : 0 < length f.bytes = omega (arith, header_of-long f.bytes f.reads) in
      let turn = turn_of-foreign-append f.bytes (chunk_bytes fs ++ m) f.reads f.foreign (omega (arith, f.complete)) in
      rw append_assoc
      (events_on-front f.bytes (chunk_bytes fs ++ m) p turn refl some
      ∙ ap (λ (r : List Event). event_if (not (eqb k p.run)) (Note (note_for f)) ++ r) (events_on-row fs m (passed p k))
      ∙ when-note (eqb k p.run) (note_for f) (notes_behind k fs) (events_on N m (passed p (last_sort k fs))))

  -- ---- what follows a row

  module _ (l : List ℕ) (p : WalkState) (k : ℕ) where
    chunk-same : (x : Chunk) → (chunk_yield N l (passed p k) x ≡ chunk_yield N l p x) × (chunk_next (passed p k) x ≡ chunk_next p x)
    chunk-same (Start s) = (refl, refl)
    chunk-same End = (refl, refl)
    chunk-same (Other n) = (refl, refl)
    chunk-same Last = (refl, refl)

    cut-same : (x : CutChunk) → (cut_yield N l (passed p k) x ≡ cut_yield N l p x) × (cut_next (passed p k) x ≡ cut_next p x)
    cut-same CutLine = (refl, refl)
    cut-same CutHead = (refl, refl)
    cut-same (CutGap s) = (refl, refl)
    cut-same (CutAttributes s) = (refl, refl)
    cut-same (CutTrailing s) = (refl, refl)
    cut-same CutEnd = (refl, refl)
    cut-same CutOther = (refl, refl)

    pub events_on-run : Ordinary (turn_of l) → events_on N l (passed p k) ≡ events_on N l p
    events_on-run o = go (turn_of l) refl o
      where
        go : (T : Turn) → turn_of l ≡ T → Ordinary T → events_on N l (passed p k) ≡ events_on N l p
        go Stop e o = events_on-stop N l (passed p k) e ∙ sym (events_on-stop N l p e)
        go (Foreign j a u) e o = absurd o
        go (Met x) e o =
            let some : 0 < len_of x = omega (arith, (told l e).0) in
            events_on-step N l (passed p k) (len_of x) e refl some ∙ rw ((chunk-same x).0, (chunk-same x).1) (sym (events_on-step N l p (len_of x) e refl some))
        go (Cut x) e o =
            let t = told l e in
            let some : 0 < length l = omega (arith, t.0, t.1) in
            events_on-step N l (passed p k) (length l) e refl some ∙ rw ((cut-same x).0, (cut-same x).1) (sym (events_on-step N l p (length l) e refl some))

  -- THE LAW of a place: behind a chunk that is not foreign, and before one or at the end
  pub events_on-place : (fs : List ForeignChunk) (m : List ℕ) (p : WalkState) → p.run ≡ 2 → Ordinary (turn_of m)
      → events_on N (chunk_bytes fs ++ m) p ≡ notes_of (stretch_notes fs) ++ events_on N m p
  events_on-place fs m p r o =
      events_on-row fs m p ∙ rw (notes_behind-fresh fs p.run r, events_on-run m p (last_sort p.run fs) o)
