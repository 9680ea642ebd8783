-- A body that makes no note, and the body with foreign chunks at its places: all other events are the same, and the notes are those of the places.
-- docs/FORMAT.md, P3. For proofs/Insertion/InsertedFile.antt. No contract cites this file.
--
--   SameWithNotes   the longer body makes what the body makes, and beside it these notes
--   AtAllPlaces     so it is with the chunks of all places
--   inserted-body   THE LAW of a body: at a place, at a whole chunk, at a cut one, at the end
use Prim.Native.Nat.{ℕ, suc, ◌≤◌, ◌<◌}
use native.Mathlib.Omega.{arith}
use mathlib.Core.Path.{◌≡◌, refl, sym, ◌∙◌, ap, subst}
use mathlib.Core.List.{List, [], ◌∷◌, ◌++◌, append-nil, cons≢nil}
use mathlib.Core.Bool.{false}
use borrow.Author.Tests.{ne_eqb}
use lib.ListN.{length, take, drop, take-append-drop}
use lib.Seq.{length-take-le}
use lib.Dec.{eqb}
use Rattle.chunk.proofs.Walk.{walk-ind}
use Rattle.anomaly.specs.declared.ResAnomaly.{ResAnomaly}
use Rattle.xml_elements.specs.declared.Chunk.{Chunk}
use Rattle.xml_elements.specs.declared.Chunk.TheVariants.{Start, End, Other, Last}
use Rattle.xml_elements.specs.declared.CutChunk.{CutChunk}
use Rattle.xml_elements.specs.declared.Turn.{Turn}
use Rattle.xml_elements.specs.declared.Turn.TheVariants.{Stop, Foreign, Met, Cut}
use Rattle.xml_elements.specs.Chunk.{turn_of, len_of}
use Rattle.xml_elements.proofs.Laws.{told}
use Rattle.xml_elements.proofs.Local.{turn_of-append}
use Rattle.events.specs.Events.{Names, WalkState, chunk_yield, chunk_next, used, next, events_on, notes_of}
use Rattle.events.proofs.Model.{events_on-step}
use Rattle.events.proofs.Local.{chunk_yield-append}
use Rattle.claims.specs.Insertion.{ForeignChunk, chunk_bytes, stretch_notes, chunks_of, rest_of, places_of, inserted, place_notes}
use Rattle.claims.proofs.Insertion.BodyChunks.{fits, nil-stop, stop-of, chunks_of-stop, rest_of-stop, chunks_of-front}
use Rattle.claims.specs.Counts.{event_notes}
use Rattle.claims.proofs.Events.NotesAndOthers.{others_in, others_in-append, event_notes-append, others_in-notes, event_notes-notes, nil-left, nil-right}
use Rattle.claims.proofs.Insertion.ForeignRow.{Ordinary, events_on-front, events_on-place}

chunk_next-run : (p : WalkState) (x : Chunk) → (chunk_next p x).run ≡ 2
chunk_next-run p (Start s) = refl
chunk_next-run p End = refl
chunk_next-run p (Other n) = refl
chunk_next-run p Last = refl

module _ (N : Names) where
  -- the body l' makes what l makes, and beside it the notes ns
  pub record SameWithNotes (p : WalkState) (l l' : List ℕ) (ns : List ResAnomaly) : Type 0 where
    pub others : others_in (events_on N l' p) ≡ others_in (events_on N l p)
    pub notes : event_notes (events_on N l' p) ≡ ns

  -- ---- a place

  place-inserted : (fs : List ForeignChunk) (p : WalkState) (l m : List ℕ) (ns : List ResAnomaly) → p.run ≡ 2 → Ordinary (turn_of m) → SameWithNotes p l m ns
      → SameWithNotes p l (chunk_bytes fs ++ m) (stretch_notes fs ++ ns)
  place-inserted fs p l m ns r o w =
      let ms = stretch_notes fs in
      let e = events_on-place N fs m p r o in
      record {
        others = ap others_in e ∙ others_in-append (notes_of ms) (events_on N m p) ∙ rw (others_in-notes ms) w.others;
        notes = ap event_notes e ∙ event_notes-append (notes_of ms) (events_on N m p) ∙ rw (event_notes-notes ms, w.notes);
      }

  -- ---- a whole chunk c before both

  module _ (p : WalkState) (c d d' : List ℕ) (x : Chunk) (e : turn_of (c ++ d) ≡ Met x) (q : len_of x ≡ length c) where
    some : 0 < length c
    some = omega (arith, (told (c ++ d) e).0)

    pub turn-same : turn_of (c ++ d') ≡ Met x
    turn-same = turn_of-append c d d' x (omega arith) e

    short : events_on N (c ++ d) p ≡ chunk_yield N (c ++ d) p x ++ events_on N d (chunk_next p x)
    short = events_on-front N c d p e q some

    long : events_on N (c ++ d') p ≡ chunk_yield N (c ++ d) p x ++ events_on N d' (chunk_next p x)
    long = events_on-front N c d' p turn-same q some ∙ rw (chunk_yield-append N c d d' p x (omega arith))

    whole_before : event_notes (events_on N (c ++ d) p) ≡ [] → (ns : List ResAnomaly) → SameWithNotes (chunk_next p x) d d' ns → SameWithNotes p (c ++ d) (c ++ d') ns
    whole_before z ns w =
        let y = chunk_yield N (c ++ d) p x in
        let both : event_notes y ++ event_notes (events_on N d (chunk_next p x)) ≡ [] = sym (ap event_notes short ∙ event_notes-append y _) ∙ z in
        record {
          others =
              ap others_in long ∙ others_in-append y _ ∙ rw w.others (sym (ap others_in short ∙ others_in-append y _));
          notes = ap event_notes long ∙ event_notes-append y _ ∙ rw (nil-left (event_notes y) (event_notes (events_on N d (chunk_next p x))) both, w.notes);
        }

  -- ---- all places of a body

  abbrev pub AtAllPlaces : WalkState → List ℕ → Type 0
  AtAllPlaces p l = (places : List (List ForeignChunk)) → length places ≤ places_of l → SameWithNotes p l (inserted places l) (place_notes places)

  same : (p : WalkState) (l : List ℕ) → event_notes (events_on N l p) ≡ [] → SameWithNotes p l l []
  same p l z = record { others = refl; notes = z }

  too_many : {A : Type 0} (n m : ℕ) → suc (suc n) ≤ m → m ≤ 1 → A
  too_many n m h k = absurd (let y : ⊥ = omega arith in y)

  module _ (p : WalkState) (r : p.run ≡ 2) where
    at-stop : (l : List ℕ) → turn_of l ≡ Stop → event_notes (events_on N l p) ≡ [] → AtAllPlaces p l
    unfolding inserted places_of
    at-stop l e z [] h = rw (chunks_of-stop l e, rest_of-stop l e) (same p l z)
    at-stop [] e z (fs ∷ []) h = rw (chunks_of-stop [] e, rest_of-stop [] e) (place-inserted fs p [] [] [] r (rw e tt) (same p [] z))
    at-stop (x ∷ l) e z (fs ∷ []) h =
        absurd (let k : 1 ≤ 0 = rw (chunks_of-stop (x ∷ l) e, rest_of-stop (x ∷ l) e) at h in let y : ⊥ = omega arith in y)
    at-stop [] e z (fs ∷ gs ∷ ps) h = too_many (length ps) _ (rw (chunks_of-stop [] e, rest_of-stop [] e) at h) (omega arith)
    at-stop (x ∷ l) e z (fs ∷ gs ∷ ps) h = too_many (length ps) _ (rw (chunks_of-stop (x ∷ l) e, rest_of-stop (x ∷ l) e) at h) (omega arith)

    at-whole : (c d : List ℕ) (x : Chunk) → turn_of (c ++ d) ≡ Met x → len_of x ≡ length c → event_notes (events_on N (c ++ d) p) ≡ []
        → AtAllPlaces (chunk_next p x) d → AtAllPlaces p (c ++ d)
    unfolding inserted places_of
    at-whole c d x e q z rec places h = go places h
      where
        front : (chunks_of (c ++ d) ≡ c ∷ chunks_of d) × (rest_of (c ++ d) ≡ rest_of d)
        front = chunks_of-front c d e q (some p c d d x e q)

        alone : turn_of c ≡ Met x
        alone = rw (append-nil c) at (turn-same p c d [] x e q)

        go : (places : List (List ForeignChunk)) → length places ≤ places_of (c ++ d) → SameWithNotes p (c ++ d) (inserted places (c ++ d)) (place_notes places)
        go [] h = rw (front.0, front.1) (whole_before p c d (inserted [] d) x e q z [] (rec [] (omega arith)))
        go (fs ∷ ps) h =
            let d' = inserted ps d in
            let few : length ps ≤ places_of d = omega (arith, rw (front.0, front.1, alone) at h) in
            rw (front.0, front.1)
            (place-inserted fs p (c ++ d) (c ++ d') (place_notes ps) r (rw (turn-same p c d d' x e q) tt)
            (whole_before p c d d' x e q z (place_notes ps) (rec ps few)))

    at_cut : (l : List ℕ) (x : CutChunk) → turn_of l ≡ Cut x → event_notes (events_on N l p) ≡ [] → AtAllPlaces p l
    unfolding inserted places_of
    at_cut l x e z places h = go places h
      where
        front : (chunks_of l ≡ l ∷ []) × (rest_of l ≡ [])
        front =
            let t = told l e in
            let f = chunks_of-front l [] {T = Cut x} (rw append-nil e) (rw append-nil) (omega (arith, t.0, t.1)) in
            (rw (append-nil, chunks_of-stop [] nil-stop) at f.0, rw (append-nil, rest_of-stop [] nil-stop) at f.1)

        go : (places : List (List ForeignChunk)) → length places ≤ places_of l → SameWithNotes p l (inserted places l) (place_notes places)
        go [] h = rw (front.0, front.1, append-nil l) (same p l z)
        go (fs ∷ []) h = rw (front.0, front.1, append-nil l) (place-inserted fs p l l [] r (rw e tt) (same p l z))
        go (fs ∷ gs ∷ ps) h = too_many (length ps) _ (rw (front.0, front.1, e) at h) (omega arith)

    -- a body that makes no note has no foreign chunk
    no-foreign : (l : List ℕ) (k a u : ℕ) → turn_of l ≡ Foreign k a u → event_notes (events_on N l p) ≡ [] → ⊥
    no-foreign l k a u e z =
        let t = told l e in
        let f : eqb k p.run ≡ false = ne_eqb k p.run (λ y. omega (arith, t.0, y, r)) in
        let s = events_on-step N l p u e refl (omega (arith, t.1)) in
        cons≢nil (rw (s, f) at z)

  -- THE LAW of a body
  pub inserted-body : (l : List ℕ) (p : WalkState) → p.run ≡ 2 → event_notes (events_on N l p) ≡ [] → AtAllPlaces p l
  inserted-body = walk-ind used next fits (λ l p. p.run ≡ 2 → event_notes (events_on N l p) ≡ [] → AtAllPlaces p l)
      (λ l p z r n. at-stop p r l (stop-of l z) n) more
    where
      more : (l : List ℕ) (p : WalkState) (m : ℕ) → used l p ≡ suc m → suc m ≤ length l
          → ((next l p).run ≡ 2 → event_notes (events_on N (drop (suc m) l) (next l p)) ≡ [] → AtAllPlaces (next l p) (drop (suc m) l))
          → p.run ≡ 2 → event_notes (events_on N l p) ≡ [] → AtAllPlaces p l
      more l p m u f ih r z = go (turn_of l) refl
        where
          c : List ℕ
          c = take (suc m) l

          d : List ℕ
          d = drop (suc m) l

          both : c ++ d ≡ l
          both = take-append-drop (suc m) l

          go : (T : Turn) → turn_of l ≡ T → AtAllPlaces p l
          go Stop e = absurd (let k : 0 ≡ suc m = rw e at u in let y : ⊥ = omega arith in y)
          go (Foreign k a w) e = absurd (no-foreign p r l k a w e z)
          go (Cut x) e = at_cut p r l x e z
          go (Met x) e =
              let q : len_of x ≡ suc m = rw e at u in
              let s = events_on-step N l p (suc m) e q (omega arith) in
              let y = chunk_yield N l p x in
              let n : event_notes (events_on N d (chunk_next p x)) ≡ [] = nil-right (event_notes y) _ (sym (ap event_notes s ∙ event_notes-append y _) ∙ z) in
              let ih' = rw e at ih in
              subst (AtAllPlaces p) both
              (at-whole p r c d x (rw both e) (q ∙ sym (length-take-le (suc m) l f)) (rw both z) (ih' (chunk_next-run p x) n))
