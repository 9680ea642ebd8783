-- A kind's printed number and its place in the counts: two kinds have one number exactly where they have one place, whatever the numbers are.
-- No contract cites this file.
--
--   is_in, once           a number stands in a list; no number stands in it twice
--   once-place           in such a list equal numbers have one place
--   kind_numbers-at       the number of a kind stands at its place
--   kind-place           equal numbers are equal places
use Prim.Native.Nat.{ℕ, zero, suc, ◌<◌}
use native.Mathlib.Omega.{arith}
use mathlib.Core.Path.{◌≡◌, refl, sym, ◌∙◌, ap}
use mathlib.Core.List.{List, [], ◌∷◌}
use mathlib.Core.Bool.{Bool, true, false, ◌&&◌, ◌||◌, not, true≢false}
use borrow.Author.Tests.{eqb-true, eqb-false, eq-eqb, ne_eqb}
use lib.ListN.{length, get_or}
use lib.Dec.{eqb}
use Rattle.anomaly.specs.Note.{note_of, kinds, kind_index, kind_number, kind_numbers}
use Rattle.anomaly.specs.declared.ResAnomaly.{ResAnomaly}
use Rattle.anomaly.specs.declared.ResAnomaly.TheVariants.{StringPoolGarbageChunk, StringCountMismatch, StringOffsetsOutOfBounds, NonXmlChunk}
use Rattle.anomaly.specs.declared.ResAnomaly.TheVariants.{XmlNodeHeaderSize, UnknownChunk, AttributeStartShifted, AttributeSizeMismatch}
use Rattle.anomaly.specs.declared.ResAnomaly.TheVariants.{ElementTrailingBytes, InvalidElementName, InvalidAttributeName, TruncatedXml, UnclosedElements}
use Rattle.anomaly.specs.declared.ResAnomaly.TheVariants.{DamagedElementName}
use Rattle.anomaly.proofs.Laws.{kind_index-lt}

abbrev pub is_in : ℕ → List ℕ → Bool
is_in x [] = false
is_in x (y ∷ l) = eqb y x || is_in x l

abbrev pub once : List ℕ → Bool
once [] = true
once (x ∷ l) = not (is_in x l) && once l

or-true : (b : Bool) {c : Bool} → c ≡ true → (b || c) ≡ true
or-true true e = refl
or-true false e = e

is_in-at : (l : List ℕ) (k : ℕ) → k < length l → is_in (get_or l k 0) l ≡ true
is_in-at [] k p = absurd (let z : ⊥ = omega arith in z)
is_in-at (x ∷ l) zero p = rw (eq-eqb x x refl)
is_in-at (x ∷ l) (suc k) p = or-true (eqb x (get_or l k 0)) (is_in-at l k (omega arith))

once-head : (b c : Bool) → (not b && c) ≡ true → b ≡ false
once-head true true e = sym e
once-head true false e = sym e
once-head false c e = refl

once-rest : (b c : Bool) → (not b && c) ≡ true → c ≡ true
once-rest true true e = refl
once-rest true false e = e
once-rest false c e = e

pub once-place : (l : List ℕ) → once l ≡ true → (j k : ℕ) → j < length l → k < length l → get_or l j 0 ≡ get_or l k 0 → j ≡ k
once-place [] o j k p q e = absurd (let z : ⊥ = omega arith in z)
once-place (x ∷ l) o zero zero p q e = refl
once-place (x ∷ l) o zero (suc k) p q e =
    let h = once-head (is_in x l) (once l) o in
    let i : is_in x l ≡ true = rw e (is_in-at l k (omega arith)) in
    absurd (true≢false (sym i ∙ h))
once-place (x ∷ l) o (suc j) zero p q e =
    let h = once-head (is_in x l) (once l) o in
    let i : is_in x l ≡ true = rw (sym e) (is_in-at l j (omega arith)) in
    absurd (true≢false (sym i ∙ h))
once-place (x ∷ l) o (suc j) (suc k) p q e = ap suc (once-place l (once-rest (is_in x l) (once l) o) j k (omega arith) (omega arith) e)

kind_numbers-once : (length kind_numbers ≡ kinds) × (once kind_numbers ≡ true)
unfolding kind_numbers
kind_numbers-once = (refl, refl)

pub kind_numbers-at : (x : ResAnomaly) → get_or kind_numbers (kind_index x) 0 ≡ kind_number x
unfolding kind_numbers note_of kind_index
kind_numbers-at (StringPoolGarbageChunk chunk-type skipped) = refl
kind_numbers-at (StringCountMismatch declared actual) = refl
kind_numbers-at (StringOffsetsOutOfBounds count) = refl
kind_numbers-at (NonXmlChunk chunk-type) = refl
kind_numbers-at (XmlNodeHeaderSize header-size) = refl
kind_numbers-at (UnknownChunk chunk-type) = refl
kind_numbers-at (AttributeStartShifted attribute-start) = refl
kind_numbers-at (AttributeSizeMismatch attribute-size) = refl
kind_numbers-at (ElementTrailingBytes len) = refl
kind_numbers-at (InvalidElementName name has-text) = refl
kind_numbers-at (InvalidAttributeName name) = refl
kind_numbers-at TruncatedXml = refl
kind_numbers-at (UnclosedElements count) = refl
kind_numbers-at (DamagedElementName name state) = refl

pub kind-place : (x y : ResAnomaly) → eqb (kind_number x) (kind_number y) ≡ eqb (kind_index x) (kind_index y)
kind-place x y = go (eqb (kind_number x) (kind_number y)) refl
  where
    go : (b : Bool) → eqb (kind_number x) (kind_number y) ≡ b → eqb (kind_number x) (kind_number y) ≡ eqb (kind_index x) (kind_index y)
    go true e =
        let len = kind_numbers-once.0 in
        let s = kind_numbers-at x ∙ eqb-true (kind_number x) (kind_number y) e ∙ sym (kind_numbers-at y) in
        let q = once-place kind_numbers kind_numbers-once.1 (kind_index x) (kind_index y) (omega (arith, len, kind_index-lt x)) (omega (arith, len, kind_index-lt y)) s in
        e ∙ sym (eq-eqb (kind_index x) (kind_index y) q)
    go false e =
        let n : kind_index x ≡ kind_index y → ⊥ = λ q. eqb-false (kind_number x) (kind_number y) e (sym (kind_numbers-at x) ∙ ap (λ i. get_or kind_numbers i 0) q ∙ kind_numbers-at y) in
        e ∙ sym (ne_eqb (kind_index x) (kind_index y) n)
