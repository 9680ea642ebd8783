-- What a reader of the insertion theorem may ask of its definitions: docs/FORMAT.md, W5, P3. No contract cites this file.
--
--   foreign-of, foreign-bytes     every complete foreign chunk is a `ForeignChunk`
--   foreign-least, foreign-told   and no other
--   stretch-one                   a stretch of one sort makes one note
--   note-type, note-size          which number it has
--   place_notes-room               the notes are of two kinds, so that twice the cap suffices
use Rattle.std.specs.Prelude.{Some}
use Prim.Native.Nat.{ℕ, ◌+◌, ◌*◌, ◌≤◌}
use native.Mathlib.Omega.{arith}
use mathlib.Core.Path.{◌≡◌, refl, ◌∙◌, ap}
use mathlib.Core.List.{List, [], ◌∷◌, ◌++◌, append-nil}
use mathlib.Core.Bool.{Bool, true, false, cond}
use borrow.Author.Tests.{eq-eqb, ne_eqb, eqb-true, eqb-false}
use lib.ListN.{length, take, drop, take-append-drop}
use lib.Seq.{length-take-le}
use lib.Dec.{eqb}
use Rattle.common.specs.Header.{header_of}
use Rattle.common.specs.declared.ResChunkHeader.{ResChunkHeader}
use Rattle.common.proofs.Laws.{header_of-long}
use Rattle.chunk.specs.Sort.{chunk_sort}
use Rattle.anomaly.specs.Note.{kind_index}
use Rattle.anomaly.specs.Kept.{is_due, counted, none, of_kind, kept_from, kept_notes}
use Rattle.anomaly.specs.declared.ResAnomaly.{ResAnomaly}
use Rattle.anomaly.specs.declared.ResAnomaly.TheVariants.{NonXmlChunk, XmlNodeHeaderSize}
use Rattle.anomaly.proofs.Laws.{kept_notes-of-kind-le}
use Rattle.xml_elements.specs.declared.Turn.TheVariants.{Foreign}
use Rattle.xml_elements.specs.Chunk.{turn_of, foreign_number}
use Rattle.xml_elements.proofs.Laws.{cond-by}
use Rattle.xml_elements.proofs.Local.{header_of-same, turn_of-foreign-append}
use Rattle.claims.specs.Insertion.{ForeignChunk, AllOf, BeginsOther, note_for, notes_behind, stretch_notes, place_notes}

-- ---- complete foreign chunks

module _ (l : List ℕ) {h : ResChunkHeader} (w : header_of l ≡ Some h) (n : chunk_sort h ≡ 2 → ⊥) (least : 8 ≤ h.size) (there : h.size ≤ length l) where
  -- a header that is foreign, of a size of at least 8, and all its bytes are there
  pub foreign-of : ForeignChunk
  foreign-of = record {
    bytes = take h.size l;
    header = h;
    reads =
        let len : length (take h.size l) ≡ h.size = length-take-le h.size l there in
        let e = header_of-same (take h.size l) (drop h.size l) [] {h = h} (rw (take-append-drop h.size l) w) (omega (arith, len)) in
        rw append-nil at e;
    foreign = n;
    complete = omega (arith, length-take-le h.size l there);
  }

  pub foreign-bytes : foreign-of.bytes ≡ take h.size l
  unfolding foreign-of
  foreign-bytes = refl

-- and each is such a one
pub foreign-least : (f : ForeignChunk) → 8 ≤ f.header.size
foreign-least f = omega (arith, f.complete, header_of-long f.bytes f.reads)

-- the walk takes it for foreign, whatever follows it, and takes its bytes
pub foreign-told : (f : ForeignChunk) (m : List ℕ) → turn_of (f.bytes ++ m) ≡ Foreign (chunk_sort f.header) (foreign_number f.header) (length f.bytes)
foreign-told f m = turn_of-foreign-append f.bytes m f.reads f.foreign (omega (arith, f.complete))

-- ---- stretches

behind-same : (k : ℕ) (fs gs : List ForeignChunk) → AllOf k fs → notes_behind k (fs ++ gs) ≡ notes_behind k gs
behind-same k [] gs h = refl
behind-same k (f ∷ fs) gs h = rw (h.0, eq-eqb k k refl) (behind-same k fs gs h.1)

behind-other : (k : ℕ) (gs : List ForeignChunk) → BeginsOther k gs → notes_behind k gs ≡ stretch_notes gs
behind-other k [] h = refl
behind-other k (g ∷ gs) h = rw (ne_eqb (chunk_sort g.header) k h)

-- the whole of W4: a stretch makes one note, that of its first chunk, and then come the notes of what follows it
pub stretch-one : (f : ForeignChunk) (fs gs : List ForeignChunk) → AllOf (chunk_sort f.header) fs → BeginsOther (chunk_sort f.header) gs
    → stretch_notes ((f ∷ fs) ++ gs) ≡ note_for f ∷ stretch_notes gs
stretch-one f fs gs h o =
    ap (λ (r : List ResAnomaly). note_for f ∷ r) (behind-same (chunk_sort f.header) fs gs h ∙ behind-other (chunk_sort f.header) gs o)

-- the number of a note: the type of a chunk that is not XML, the header size of one that is
pub note-type : (f : ForeignChunk) → chunk_sort f.header ≡ 0 → note_for f ≡ NonXmlChunk f.header.kind
unfolding foreign_number
note-type f e = rw e

pub note-size : (f : ForeignChunk) → chunk_sort f.header ≡ 1 → note_for f ≡ XmlNodeHeaderSize f.header.header_size
unfolding foreign_number
note-size f e = rw e

-- ---- twice the cap suffices

-- notes of the kinds 3 and 4 alone
abbrev IsTwo : ResAnomaly → Type 0
IsTwo x = (3 ≤ kind_index x) × (kind_index x ≤ 4)

abbrev AllTwo : List ResAnomaly → Type 0
AllTwo [] = Unit {0}
AllTwo (x ∷ l) = IsTwo x × AllTwo l

two-note : (f : ForeignChunk) → IsTwo (note_for f)
unfolding kind_index
two-note f = cond-by IsTwo (eqb (chunk_sort f.header) 0) (λ _. (omega arith, omega arith)) (λ _. (omega arith, omega arith))

two-append : (k l : List ResAnomaly) → AllTwo k → AllTwo l → AllTwo (k ++ l)
two-append [] l h g = g
two-append (x ∷ k) l h g = (h.0, two-append k l h.1 g)

two-either : (b : Bool) (k l : List ResAnomaly) → AllTwo k → AllTwo l → AllTwo (cond b k l)
two-either true k l h g = h
two-either false k l h g = g

two-behind : (k : ℕ) (fs : List ForeignChunk) → AllTwo (notes_behind k fs)
two-behind k [] = tt
two-behind k (f ∷ fs) =
    two-append (cond (eqb (chunk_sort f.header) k) [] (note_for f ∷ [])) (notes_behind (chunk_sort f.header) fs)
    (two-either (eqb (chunk_sort f.header) k) [] (note_for f ∷ []) tt (two-note f, tt)) (two-behind (chunk_sort f.header) fs)

two-stretch : (fs : List ForeignChunk) → AllTwo (stretch_notes fs)
two-stretch [] = tt
two-stretch (f ∷ fs) = (two-note f, two-behind (chunk_sort f.header) fs)

two-places : (places : List (List ForeignChunk)) → AllTwo (place_notes places)
two-places [] = tt
two-places (fs ∷ places) = two-append (stretch_notes fs) (place_notes places) (two-stretch fs) (two-places places)

two-kept : (cap : ℕ) (counts : List ℕ) (l : List ResAnomaly) → AllTwo l → AllTwo (kept_from cap counts l)
unfolding kept_from
two-kept cap counts [] h = tt
two-kept cap counts (x ∷ l) h =
    let due = is_due cap counts (kind_index x) in
    let counts' = cond due (counted counts (kind_index x)) counts in
    two-append (cond due (x ∷ []) []) (kept_from cap counts' l) (two-either due (x ∷ []) [] (h.0, tt) tt) (two-kept cap counts' l h.1)

two-length : (l : List ResAnomaly) → AllTwo l → length l ≡ length (of_kind 3 l) + length (of_kind 4 l)
unfolding of_kind
two-length [] h = refl
two-length (x ∷ l) h = go (eqb (kind_index x) 3) refl (two-length l h.1)
  where
    go : (b : Bool) → eqb (kind_index x) 3 ≡ b → length l ≡ length (of_kind 3 l) + length (of_kind 4 l)
        → length (x ∷ l) ≡ length (of_kind 3 (x ∷ l)) + length (of_kind 4 (x ∷ l))
    go true e rec =
        let k = eqb-true (kind_index x) 3 e in
        rw (e, ne_eqb (kind_index x) 4 (λ z. omega (arith, k, z))) (omega (arith, rec))
    go false e rec =
        let n = eqb-false (kind_index x) 3 e in
        rw (e, eq-eqb (kind_index x) 4 (four (kind_index x) h.0.0 h.0.1 n)) (omega (arith, rec))
      where
        four : (i : ℕ) → 3 ≤ i → i ≤ 4 → (i ≡ 3 → ⊥) → i ≡ 4
        four i p q n = omega arith

pub place_notes-room : (cap : ℕ) (places : List (List ForeignChunk)) → length (kept_notes cap (place_notes places)) ≤ 2 * cap
place_notes-room cap places =
    let ns = kept_notes cap (place_notes places) in
    omega (
      arith,
      two-length ns (two-kept cap none (place_notes places) (two-places places)),
      kept_notes-of-kind-le cap 3 (place_notes places),
      kept_notes-of-kind-le cap 4 (place_notes places),
    )
