-- Laws of specs/Note.antt and specs/Kept.antt. No contract cites this file.
-- In order: places (`kind_index-lt`), the equations of `kept_from` for a loop that meets anomalies one by one (`-due`, `-past`), which are kept
-- (`kept_notes-of-kind` and what follows from it).
use Prim.Native.Nat.{ℕ, zero, suc, ◌+◌, ◌-◌, ◌*◌, ◌≤◌, ◌<◌, zero-le}
use native.Mathlib.Omega.{arith}
use native.Mathlib.Nat.{min-le_left}
use native.Mathlib.Numerals.{add-one}
use mathlib.Core.Path.{◌≡◌, refl, sym, ◌∙◌, ap}
use mathlib.Core.List.{List, [], ◌∷◌, Sublistᴰ}
use mathlib.Core.Bool.{Bool, true, false}
use borrow.Author.Tests.{ltb-true, ltb-false, lt-ltb, le-ltb, eqb-true, eqb-false, eq-eqb}
use lib.ListN.{length, take, get_or, set, replicate, length-set, length-take}
use lib.Seq.{take-nil, get_or-set_same, get_or-set_other}
use lib.Dec.{eqb}
use Rattle.anomaly.specs.Note.{kinds, kind_index}
use Rattle.anomaly.specs.Kept.{is_due, counted, none, kept_from, kept_notes, of_kind}
use Rattle.anomaly.specs.declared.ResAnomaly.{ResAnomaly}
use Rattle.anomaly.specs.declared.ResAnomaly.TheVariants.{StringPoolGarbageChunk, StringCountMismatch, StringOffsetsOutOfBounds, NonXmlChunk}
use Rattle.anomaly.specs.declared.ResAnomaly.TheVariants.{XmlNodeHeaderSize, UnknownChunk, AttributeStartShifted, AttributeSizeMismatch}
use Rattle.anomaly.specs.declared.ResAnomaly.TheVariants.{ElementTrailingBytes, InvalidElementName, InvalidAttributeName, TruncatedXml, UnclosedElements}
use Rattle.anomaly.specs.declared.ResAnomaly.TheVariants.{DamagedElementName}

-- ---- places

pub kind_index-lt : (x : ResAnomaly) → kind_index x < kinds
unfolding kind_index
kind_index-lt (StringPoolGarbageChunk chunk-type skipped) = omega arith
kind_index-lt (StringCountMismatch declared actual) = omega arith
kind_index-lt (StringOffsetsOutOfBounds count) = omega arith
kind_index-lt (NonXmlChunk chunk-type) = omega arith
kind_index-lt (XmlNodeHeaderSize header-size) = omega arith
kind_index-lt (UnknownChunk chunk-type) = omega arith
kind_index-lt (AttributeStartShifted attribute-start) = omega arith
kind_index-lt (AttributeSizeMismatch attribute-size) = omega arith
kind_index-lt (ElementTrailingBytes len) = omega arith
kind_index-lt (InvalidElementName name has-text) = omega arith
kind_index-lt (InvalidAttributeName name) = omega arith
kind_index-lt TruncatedXml = omega arith
kind_index-lt (UnclosedElements count) = omega arith
kind_index-lt (DamagedElementName name state) = omega arith

pub counted-length : (counts : List ℕ) (k : ℕ) → length counts ≡ kinds → length (counted counts k) ≡ kinds
counted-length counts k l = length-set counts k (get_or counts k 0 + 1) ∙ l

-- ---- one by one

pub kept_from-due : (cap : ℕ) (counts : List ℕ) (x : ResAnomaly) (xs : List ResAnomaly) → is_due cap counts (kind_index x) ≡ true
    → kept_from cap counts (x ∷ xs) ≡ x ∷ kept_from cap (counted counts (kind_index x)) xs
unfolding kept_from
kept_from-due cap counts x xs e = rw e

pub kept_from-past : (cap : ℕ) (counts : List ℕ) (x : ResAnomaly) (xs : List ResAnomaly) → is_due cap counts (kind_index x) ≡ false
    → kept_from cap counts (x ∷ xs) ≡ kept_from cap counts xs
unfolding kept_from
kept_from-past cap counts x xs e = rw e

-- ---- which are kept

of_kind-same : (k : ℕ) (x : ResAnomaly) (xs : List ResAnomaly) → eqb (kind_index x) k ≡ true → of_kind k (x ∷ xs) ≡ x ∷ of_kind k xs
unfolding of_kind
of_kind-same k x xs e = rw e

of_kind-other : (k : ℕ) (x : ResAnomaly) (xs : List ResAnomaly) → eqb (kind_index x) k ≡ false → of_kind k (x ∷ xs) ≡ of_kind k xs
unfolding of_kind
of_kind-other k x xs e = rw e

-- what one anomaly does to the count of a kind: a kept one of that kind adds 1
pub counted_same : (counts : List ℕ) (j k : ℕ) → length counts ≡ kinds → j < kinds → j ≡ k → get_or (counted counts j) k 0 ≡ get_or counts k 0 + 1
counted_same counts j k len h e = rw (← e) (get_or-set_same counts j (get_or counts j 0 + 1) 0 (omega arith))

pub counted-other : (counts : List ℕ) (j k : ℕ) → (j ≡ k → ⊥) → get_or (counted counts j) k 0 ≡ get_or counts k 0
counted-other counts j k h = get_or-set_other counts j k (get_or counts j 0 + 1) 0 (λ e. h (sym e))

take_more : {A : Type 0} (n m : ℕ) (x : A) (l : List A) → n ≡ m + 1 → take n (x ∷ l) ≡ x ∷ take m l
take_more n m x l e = rw (e, add-one)

take_none : {A : Type 0} (n : ℕ) (l : List A) → n ≡ 0 → take n l ≡ []
take_none n l e = rw e

module _ (cap k : ℕ) (counts : List ℕ) (x : ResAnomaly) (xs : List ResAnomaly) (len : length counts ≡ kinds) where
  -- one step: what is said of the rest, with the counts as they are and as they are with x kept
  of-kind-step : of_kind k (kept_from cap counts xs) ≡ take (cap - get_or counts k 0) (of_kind k xs)
      → of_kind k (kept_from cap (counted counts (kind_index x)) xs) ≡ take (cap - get_or (counted counts (kind_index x)) k 0) (of_kind k xs)
      → (due same : Bool) → is_due cap counts (kind_index x) ≡ due → eqb (kind_index x) k ≡ same
      → of_kind k (kept_from cap counts (x ∷ xs)) ≡ take (cap - get_or counts k 0) (of_kind k (x ∷ xs))
  of-kind-step past kept true true d e =
      let one = counted_same counts (kind_index x) k len (kind_index-lt x) (eqb-true _ _ e) in
      let c : get_or counts (kind_index x) 0 ≡ get_or counts k 0 = ap (λ (i : ℕ). get_or counts i 0) (eqb-true _ _ e) in
      let under : get_or counts (kind_index x) 0 < cap = ltb-true _ _ d in
      rw (kept_from-due cap counts x xs d, of_kind-same k x _ e, of_kind-same k x xs e)
      (ap (λ (l : List ResAnomaly). x ∷ l) kept ∙ sym (take_more (cap - get_or counts k 0) (cap - get_or (counted counts (kind_index x)) k 0) x _ (omega arith)))
  of-kind-step past kept true false d e =
      rw (kept_from-due cap counts x xs d, of_kind-other k x _ e, of_kind-other k x xs e)
      (kept ∙ ap (λ (n : ℕ). take (cap - n) (of_kind k xs)) (counted-other counts (kind_index x) k (eqb-false _ _ e)))
  of-kind-step past kept false true d e =
      let c : get_or counts (kind_index x) 0 ≡ get_or counts k 0 = ap (λ (i : ℕ). get_or counts i 0) (eqb-true _ _ e) in
      let over : cap ≤ get_or counts (kind_index x) 0 = ltb-false _ _ d in
      let zero' : cap - get_or counts k 0 ≡ 0 = omega arith in
      rw (kept_from-past cap counts x xs d)
      (past ∙ take_none (cap - get_or counts k 0) (of_kind k xs) zero' ∙ sym (take_none (cap - get_or counts k 0) (of_kind k (x ∷ xs)) zero'))
  of-kind-step past kept false false d e = rw (kept_from-past cap counts x xs d, of_kind-other k x xs e) past

-- of each kind, the first as many as its count leaves below the cap
pub kept_from-of-kind : (cap k : ℕ) (counts : List ℕ) (l : List ResAnomaly) → length counts ≡ kinds
    → of_kind k (kept_from cap counts l) ≡ take (cap - get_or counts k 0) (of_kind k l)
unfolding kept_from of_kind
kept_from-of-kind cap k counts [] len = sym (take-nil (cap - get_or counts k 0))
kept_from-of-kind cap k counts (x ∷ xs) len =
    of-kind-step cap k counts x xs len (kept_from-of-kind cap k counts xs len)
    (kept_from-of-kind cap k (counted counts (kind_index x)) xs (counted-length counts (kind_index x) len))
    (is_due cap counts (kind_index x)) (eqb (kind_index x) k) refl refl

none-at : (n k : ℕ) → ◌≡◌ {A = ℕ} (get_or (replicate n 0) k 0) 0
none-at zero k = refl
none-at (suc n) zero = refl
none-at (suc n) (suc k) = none-at n k

-- of each kind, the first as many as the cap says
pub kept_notes-of-kind : (cap k : ℕ) (l : List ResAnomaly) → of_kind k (kept_notes cap l) ≡ take cap (of_kind k l)
kept_notes-of-kind cap k l =
    let all : cap - get_or none k 0 ≡ cap = omega (arith, none-at kinds k) in
    kept_from-of-kind cap k none l refl ∙ ap (λ (n : ℕ). take n (of_kind k l)) all

-- at most as many of each kind as the cap says
pub kept_notes-of-kind-le : (cap k : ℕ) (l : List ResAnomaly) → length (of_kind k (kept_notes cap l)) ≤ cap
kept_notes-of-kind-le cap k l = rw (kept_notes-of-kind cap k l, length-take) (min-le_left _ _)

pub kept_from-cap-zero : (counts : List ℕ) (l : List ResAnomaly) → kept_from 0 counts l ≡ []
unfolding kept_from
kept_from-cap-zero counts [] = refl
kept_from-cap-zero counts (x ∷ xs) = kept_from-past 0 counts x xs (le-ltb (get_or counts (kind_index x) 0) 0 zero-le) ∙ kept_from-cap-zero counts xs

pub kept_notes-cap-zero : (l : List ResAnomaly) → kept_notes 0 l ≡ []
kept_notes-cap-zero l = kept_from-cap-zero none l

-- a list with no more of each kind than the cap says is kept whole
module _ (cap : ℕ) where
  -- there is room for all that are to come
  Roomy : List ℕ → List ResAnomaly → Type 0
  Roomy counts l = (k : ℕ) → get_or counts k 0 + length (of_kind k l) ≤ cap

  roomy-next : (counts : List ℕ) (x : ResAnomaly) (xs : List ResAnomaly) → length counts ≡ kinds → Roomy counts (x ∷ xs)
      → Roomy (counted counts (kind_index x)) xs
  unfolding Roomy
  roomy-next counts x xs len h k = go (eqb (kind_index x) k) refl
    where
      go : (same : Bool) → eqb (kind_index x) k ≡ same → get_or (counted counts (kind_index x)) k 0 + length (of_kind k xs) ≤ cap
      go true e =
          let one = counted_same counts (kind_index x) k len (kind_index-lt x) (eqb-true _ _ e) in
          let here = rw (of_kind-same k x xs e) at (h k) in
          omega arith
      go false e =
          let same = counted-other counts (kind_index x) k (eqb-false _ _ e) in
          let here = rw (of_kind-other k x xs e) at (h k) in
          omega arith

  roomy-due : (counts : List ℕ) (x : ResAnomaly) (xs : List ResAnomaly) → Roomy counts (x ∷ xs) → is_due cap counts (kind_index x) ≡ true
  unfolding Roomy
  roomy-due counts x xs h =
      let same : eqb (kind_index x) (kind_index x) ≡ true = eq-eqb (kind_index x) (kind_index x) refl in
      let here = rw (of_kind-same (kind_index x) x xs same) at (h (kind_index x)) in
      lt-ltb (get_or counts (kind_index x) 0) cap (omega arith)

  kept_from-whole : (counts : List ℕ) (l : List ResAnomaly) → length counts ≡ kinds → Roomy counts l → kept_from cap counts l ≡ l
  unfolding kept_from
  kept_from-whole counts [] len h = refl
  kept_from-whole counts (x ∷ xs) len h =
      kept_from-due cap counts x xs (roomy-due counts x xs h)
      ∙ ap (λ (l : List ResAnomaly). x ∷ l)
      (kept_from-whole (counted counts (kind_index x)) xs (counted-length counts (kind_index x) len) (roomy-next counts x xs len h))

  pub kept_notes-whole : (l : List ResAnomaly) → ((k : ℕ) → length (of_kind k l) ≤ cap) → kept_notes cap l ≡ l
  unfolding Roomy
  kept_notes-whole l h = kept_from-whole none l refl (λ k. omega (arith, none-at kinds k, h k))

-- ---- how many in all

total : List ℕ → ℕ
total [] = 0
total (n ∷ l) = n + total l

total-set : (l : List ℕ) (i : ℕ) → i < length l → total (set l i (get_or l i 0 + 1)) ≡ total l + 1
unfolding total
total-set [] i h = absurd (omega arith)
total-set (n ∷ l) zero h = omega arith
total-set (n ∷ l) (suc i) h = omega (arith, total-set l i (omega arith))

total-le : (cap : ℕ) (l : List ℕ) → ((k : ℕ) → get_or l k 0 ≤ cap) → total l ≤ length l * cap
unfolding total
total-le cap [] h = omega arith
total-le cap (n ∷ l) h = omega (arith, h 0, total-le cap l (λ k. h (suc k)))

-- no count is past the cap
Below : ℕ → List ℕ → Type 0
Below cap counts = (k : ℕ) → get_or counts k 0 ≤ cap

below_next : (cap : ℕ) (counts : List ℕ) (j : ℕ) → length counts ≡ kinds → j < kinds → get_or counts j 0 < cap → Below cap counts
    → Below cap (counted counts j)
unfolding Below
below_next cap counts j len i due h k = go (eqb j k) refl
  where
    go : (same : Bool) → eqb j k ≡ same → get_or (counted counts j) k 0 ≤ cap
    go true e =
        let c : get_or counts j 0 ≡ get_or counts k 0 = ap (λ (i : ℕ). get_or counts i 0) (eqb-true _ _ e) in
        omega (arith, counted_same counts j k len i (eqb-true _ _ e))
    go false e = omega (arith, counted-other counts j k (eqb-false _ _ e), h k)

kept_from-total : (cap : ℕ) (counts : List ℕ) (l : List ResAnomaly) → length counts ≡ kinds → Below cap counts
    → length (kept_from cap counts l) + total counts ≤ kinds * cap
unfolding kept_from Below
kept_from-total cap counts [] len h = omega (arith, rw len at (total-le cap counts h))
kept_from-total cap counts (x ∷ xs) len h =
    step (kept_from-total cap counts xs len h) (λ b. kept_from-total cap (counted counts (kind_index x)) xs (counted-length counts (kind_index x) len) b)
    (is_due cap counts (kind_index x)) refl
  where
    step : length (kept_from cap counts xs) + total counts ≤ kinds * cap
        → (Below cap (counted counts (kind_index x)) → length (kept_from cap (counted counts (kind_index x)) xs) + total (counted counts (kind_index x)) ≤ kinds * cap)
        → (due : Bool) → is_due cap counts (kind_index x) ≡ due → length (kept_from cap counts (x ∷ xs)) + total counts ≤ kinds * cap
    step past kept true d =
        let i = kind_index-lt x in
        let more = total-set counts (kind_index x) (omega arith) in
        let rest = kept (below_next cap counts (kind_index x) len i (ltb-true _ _ d) h) in
        rw (kept_from-due cap counts x xs d) (omega arith)
    step past kept false d = rw (kept_from-past cap counts x xs d) past

-- fourteen times the cap always suffices
pub kept_notes-length-le : (cap : ℕ) (l : List ResAnomaly) → length (kept_notes cap l) ≤ kinds * cap
unfolding Below
kept_notes-length-le cap l = omega (arith, kept_from-total cap none l refl (λ k. omega (arith, none-at kinds k)))

-- ---- nothing is made up, and the order stays

kept_from-sublist : (cap : ℕ) (counts : List ℕ) (l : List ResAnomaly) → Sublistᴰ (kept_from cap counts l) l
unfolding kept_from
kept_from-sublist cap counts [] = Sublistᴰ.slnil
kept_from-sublist cap counts (x ∷ xs) =
    step (kept_from-sublist cap counts xs) (kept_from-sublist cap (counted counts (kind_index x)) xs) (is_due cap counts (kind_index x)) refl
  where
    step : Sublistᴰ (kept_from cap counts xs) xs → Sublistᴰ (kept_from cap (counted counts (kind_index x)) xs) xs
        → (due : Bool) → is_due cap counts (kind_index x) ≡ due → Sublistᴰ (kept_from cap counts (x ∷ xs)) (x ∷ xs)
    step past kept true d = rw (kept_from-due cap counts x xs d) (Sublistᴰ.cons-cons refl kept)
    step past kept false d = rw (kept_from-past cap counts x xs d) (Sublistᴰ.cons past)

pub kept_notes-sublist : (cap : ℕ) (l : List ResAnomaly) → Sublistᴰ (kept_notes cap l) l
kept_notes-sublist cap l = kept_from-sublist cap none l
