-- Laws of specs/Chunk.antt, for this crate, events and walk. No contract cites this file.
-- In order: numbers of a start; which case holds (`turn_of-stop`, `turn_of-xml`, `turn_of-foreign`, `turn_of-run`); what a turn tells of the bytes
-- at whose front it stands (`Told`, `turn_of-told`), also at a place of a body (`-there`). Not here: what follows a chunk (proofs/Local.antt).
use Rattle.std.specs.Prelude.{Option, Some, None}
use Prim.Native.Nat.{ℕ, ◌+◌, ◌-◌, ◌*◌, ◌≤◌, ◌<◌, zero-le}
use native.Mathlib.Omega.{arith}
use native.Mathlib.Nat.{mul-le-mul}
use mathlib.Core.Path.{◌≡◌, refl, sym, ◌∙◌}
use mathlib.Core.List.{List}
use mathlib.Core.Bool.{Bool, true, false, cond}
use borrow.Author.Tests.{ltb-true, ltb-false, lt-ltb, le-ltb, eqb-true, eqb-false, eq-eqb, ne_eqb}
use lib.ListN.{length, drop, length-drop}
use lib.Dec.{ltb, eqb}
use Rattle.common.specs.Header.{header_of}
use Rattle.common.specs.declared.ResChunkHeader.{ResChunkHeader}
use Rattle.common.proofs.Laws.{header_here, header_of-short, header_of-whole, header_of-long, header_of-short-lt}
use Rattle.chunk.specs.Sort.{is_xml, chunk_sort, content_size, foreign_len}
use Rattle.chunk.specs.Inner.Run.{run_used}
use Rattle.chunk.proofs.Laws.{foreign_len-le, foreign_len-lt, run_used-short, run_used-same, run_used-other}
use Rattle.xml_elements.specs.declared.XmlStartElement.{XmlStartElement}
use Rattle.xml_elements.specs.declared.Chunk.{Chunk}
use Rattle.xml_elements.specs.declared.CutChunk.{CutChunk}
use Rattle.xml_elements.specs.declared.CutChunk.TheVariants.{CutLine, CutHead, CutGap, CutAttributes, CutTrailing, CutEnd, CutOther}
use Rattle.xml_elements.specs.declared.Turn.{Turn}
use Rattle.xml_elements.specs.declared.Turn.TheVariants.{Stop, Foreign, Met, Cut}
use Rattle.xml_elements.specs.Chunk.{start_of, attributes_at, attributes_end, start_len, start_turn, xml_turn, foreign_number, turn_of, len_of, used_of}

-- what holds of both ways holds of a choice
pub cond-by : {A : Type 0} (P : A → Type 0) (b : Bool) {x y : A} → (b ≡ true → P x) → (b ≡ false → P y) → P (cond b x y)
cond-by P true p q = p refl
cond-by P false p q = q refl

-- ---- numbers of a start

-- all attributes of a start, each of a stride below 65,556
pub attributes-fit : (count stride : ℕ) → count ≤ 65535 → stride ≤ 65555 → count * stride ≤ 4296146925
attributes-fit count stride h k = let m : count * stride ≤ 65535 * 65555 = mul-le-mul h k in omega arith

-- ---- which case holds

pub turn_of-stop : (l : List ℕ) → header_of l ≡ None → turn_of l ≡ Stop
unfolding turn_of
turn_of-stop l w = rw w

pub turn_of-xml : (l : List ℕ) {h : ResChunkHeader} → header_of l ≡ Some h → chunk_sort h ≡ 2 → turn_of l ≡ xml_turn l h.kind
unfolding turn_of
turn_of-xml l w e = rw (w, eq-eqb _ _ e)

pub turn_of-foreign : (l : List ℕ) {h : ResChunkHeader} → header_of l ≡ Some h → (chunk_sort h ≡ 2 → ⊥)
    → turn_of l ≡ Foreign (chunk_sort h) (foreign_number h) (foreign_len (length l) h)
unfolding turn_of
turn_of-foreign l w e = rw (w, ne_eqb _ _ e)

-- the two foreign turns as `look` makes them
pub turn_of-foreign-0 : (l : List ℕ) (r : ℕ) {h : ResChunkHeader} → header_of l ≡ Some h → chunk_sort h ≡ 0
    → r ≡ 8 + content_size (length l - 8) h.size → Foreign 0 h.kind r ≡ turn_of l
unfolding foreign_number foreign_len
turn_of-foreign-0 l r {h} w e q =
    let n : chunk_sort h ≡ 2 → ⊥ = λ z. omega arith in
    sym (turn_of-foreign l w n ∙ rw (e, ← q))

pub turn_of-foreign-1 : (l : List ℕ) (r : ℕ) {h : ResChunkHeader} → header_of l ≡ Some h → (chunk_sort h ≡ 2 → ⊥) → (chunk_sort h ≡ 0 → ⊥)
    → r ≡ 8 + content_size (length l - 8) h.size → Foreign (chunk_sort h) h.header_size r ≡ turn_of l
unfolding foreign_number foreign_len
turn_of-foreign-1 l r {h} w e n q = sym (turn_of-foreign l w e ∙ rw (ne_eqb _ _ n, ← q))

-- a foreign chunk has the sort 0 or 1
pub sort_of-lt : (h : ResChunkHeader) → (chunk_sort h ≡ 2 → ⊥) → chunk_sort h < 2
unfolding chunk_sort
sort_of-lt h =
    cond-by (λ (k : ℕ). (k ≡ 2 → ⊥) → k < 2) (is_xml h.kind)
    (λ _. cond-by (λ (k : ℕ). (k ≡ 2 → ⊥) → k < 2) (eqb h.header_size 16) (λ _ n. absurd (n refl)) (λ _ n. omega arith)) (λ _ n. omega arith)

-- a start whose last bytes are not there
pub start_turn-trailing : (l : List ℕ) (s : XmlStartElement) → s ≡ start_of l → 36 ≤ length l → attributes_end s ≤ length l → length l < start_len s
    → Cut (CutTrailing s) ≡ start_turn l
unfolding start_turn
start_turn-trailing l s e h p₂ p =
    let q₂ = rw e at p₂ in
    let q₁ : attributes_at (start_of l) ≤ length l = omega arith in
    let q = rw e at p in
    rw (
      e,
      le-ltb (length l) 36 h,
      le-ltb (length l) (attributes_at (start_of l)) q₁,
      le-ltb (length l) (attributes_end (start_of l)) q₂,
      lt-ltb (length l) (start_len (start_of l)) q,
    )

-- ---- what a turn tells

-- the bytes that are there where an XML chunk is cut
abbrev pub cut_least : CutChunk → ℕ
cut_least CutLine = 8
cut_least CutHead = 16
cut_least (CutGap s) = 36
cut_least (CutAttributes s) = 36
cut_least (CutTrailing s) = 36
cut_least CutEnd = 16
cut_least CutOther = 16

abbrev pub Told : List ℕ → Turn → Type 0
Told l Stop = length l < 8
Told l (Foreign k a u) = (k < 2) × (8 ≤ u) × (u ≤ length l)
Told l (Met x) = (16 ≤ len_of x) × (len_of x ≤ length l)
Told l (Cut x) = (8 ≤ cut_least x) × (cut_least x ≤ length l)

start_turn-told : (l : List ℕ) → 16 ≤ length l → Told l (start_turn l)
unfolding start_turn
start_turn-told l h =
    cond-by (Told l) (ltb (length l) 36) (λ _. (omega arith, h))
    (λ e. let w : 36 ≤ length l = ltb-false _ _ e in
    cond-by (Told l) (ltb (length l) (attributes_at (start_of l))) (λ _. (omega arith, w))
    (λ _. cond-by (Told l) (ltb (length l) (attributes_end (start_of l))) (λ _. (omega arith, w))
    (λ _. cond-by (Told l) (ltb (length l) (start_len (start_of l))) (λ _. (omega arith, w)) (λ q. (omega arith, ltb-false _ _ q)))))

xml_turn-told : (l : List ℕ) (kind : ℕ) → 8 ≤ length l → Told l (xml_turn l kind)
unfolding xml_turn
xml_turn-told l kind h =
    cond-by (Told l) (ltb (length l) 16) (λ _. (omega arith, h))
    (λ e. let w : 16 ≤ length l = ltb-false _ _ e in
    cond-by (Told l) (eqb kind 0x17f) (λ _. (omega arith, w))
    (λ _. cond-by (Told l) (eqb kind 0x102) (λ _. start_turn-told l w)
    (λ _. cond-by (Told l) (eqb kind 0x103) (λ _. cond-by (Told l) (ltb (length l) 24) (λ _. (omega arith, w)) (λ q. (omega arith, ltb-false _ _ q)))
    (λ _. cond-by (Told l) (eqb kind 0x104) (λ _. cond-by (Told l) (ltb (length l) 28) (λ _. (omega arith, w)) (λ q. (omega arith, ltb-false _ _ q)))
    (λ _. cond-by (Told l) (ltb (length l) 24) (λ _. (omega arith, w)) (λ q. (omega arith, ltb-false _ _ q)))))))

foreign-told : (l : List ℕ) (h : ResChunkHeader) → header_of l ≡ Some h → (chunk_sort h ≡ 2 → ⊥)
    → Told l (Foreign (chunk_sort h) (foreign_number h) (foreign_len (length l) h))
foreign-told l h w n = (sort_of-lt h n, omega (arith, foreign_len-lt (length l) h), foreign_len-le (length l) h (header_of-long l w))

pub turn_of-told : (l : List ℕ) → Told l (turn_of l)
turn_of-told l = go (header_of l) refl
  where
    sorted : (h : ResChunkHeader) → header_of l ≡ Some h → (b : Bool) → eqb (chunk_sort h) 2 ≡ b → Told l (turn_of l)
    sorted h w true e = rw (turn_of-xml l w (eqb-true _ _ e)) (xml_turn-told l h.kind (header_of-long l w))
    sorted h w false e = rw (turn_of-foreign l w (eqb-false _ _ e)) (foreign-told l h w (eqb-false _ _ e))

    go : (r : Option ResChunkHeader) → header_of l ≡ r → Told l (turn_of l)
    go None w = rw (turn_of-stop l w) (header_of-short-lt l w)
    go (Some h) w = sorted h w (eqb (chunk_sort h) 2) refl

pub told : (l : List ℕ) {T : Turn} → turn_of l ≡ T → Told l T
told l e = rw e at (turn_of-told l)

-- the walk takes no more than is left
pub used_of-le : (l : List ℕ) (T : Turn) → Told l T → used_of (length l) T ≤ length l
used_of-le l Stop h = zero-le
used_of-le l (Foreign k a u) h = h.2
used_of-le l (Met x) h = h.1
used_of-le l (Cut x) h = omega arith

-- ---- at a place of a body

pub foreign-there : (s : List ℕ) (at k a n : ℕ) → turn_of (drop at s) ≡ Foreign k a n → at ≤ length s → (k < 2) × (8 ≤ n) × (at + n ≤ length s)
foreign-there s at k a n e h =
    let t = told (drop at s) e in
    let z : n ≤ length s - at = rw length-drop at t.2 in
    (t.0, t.1, omega arith)

pub met-there : (s : List ℕ) (at : ℕ) (x : Chunk) → turn_of (drop at s) ≡ Met x → at ≤ length s → (16 ≤ len_of x) × (at + len_of x ≤ length s)
met-there s at x e h =
    let t = told (drop at s) e in
    let z : len_of x ≤ length s - at = rw length-drop at t.1 in
    (t.0, omega arith)

pub cut-there : (s : List ℕ) (at : ℕ) (x : CutChunk) → turn_of (drop at s) ≡ Cut x → at ≤ length s → (8 ≤ cut_least x) × (at + cut_least x ≤ length s)
cut-there s at x e h =
    let t = told (drop at s) e in
    let z : cut_least x ≤ length s - at = rw length-drop at t.1 in
    (t.0, omega arith)

-- ---- a chunk of a run

-- where a chunk of the foreign sort k stands, the turn is that chunk
pub turn_of-run : (k : ℕ) (l : List ℕ) → k < 2 → 0 < run_used k l → turn_of l ≡ Foreign k (foreign_number (header_here l)) (run_used k l)
turn_of-run k l p q = go (ltb (length l) 8) refl
  where
    sorted : header_of l ≡ Some (header_here l) → (b : Bool) → eqb (chunk_sort (header_here l)) k ≡ b → turn_of l ≡ Foreign k (foreign_number (header_here l)) (run_used k l)
    sorted w true e =
        let s : chunk_sort (header_here l) ≡ k = eqb-true _ _ e in
        let n : chunk_sort (header_here l) ≡ 2 → ⊥ = λ z. omega arith in
        turn_of-foreign l w n ∙ rw (run_used-same k l w s, s)
    sorted w false e = let z : run_used k l ≡ 0 = run_used-other k l w (eqb-false _ _ e) in absurd (let y : ⊥ = omega arith in y)

    go : (b : Bool) → ltb (length l) 8 ≡ b → turn_of l ≡ Foreign k (foreign_number (header_here l)) (run_used k l)
    go true e = let z : run_used k l ≡ 0 = run_used-short k l (header_of-short l (ltb-true _ _ e)) in absurd (let y : ⊥ = omega arith in y)
    go false e = sorted (header_of-whole l (ltb-false _ _ e)) (eqb (chunk_sort (header_here l)) k) refl
