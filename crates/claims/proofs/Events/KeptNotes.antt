-- The notes that a cap keeps, of each kind the first as many as it says: docs/FORMAT.md, B12 to B14. No contract cites this file.
--
--   All, all_append, all_of   what holds of all anomalies of a list; kept-all: it holds of those that a cap keeps
--   number_of                 as many notes have the number of a kind as anomalies have its place
--   kept-number               so of each number at most `cap` are kept
use Prim.Native.Nat.{ℕ, ◌+◌, ◌≤◌}
use native.Mathlib.Omega.{arith}
use mathlib.Core.Path.{◌≡◌, refl}
use mathlib.Core.List.{List, [], ◌∷◌, ◌++◌, map}
use mathlib.Core.Bool.{Bool, true, false, cond}
use borrow.Author.Tests.{eqb-true}
use lib.ListN.{length}
use lib.Dec.{eqb}
use Rattle.anomaly.specs.Note.{kind_index, note_of}
use Rattle.anomaly.specs.Kept.{is_due, counted, kept_from, kept_notes, of_kind as of_place}
use Rattle.anomaly.specs.declared.ResAnomaly.{ResAnomaly}
use Rattle.anomaly.proofs.Laws.{kept_from-due, kept_from-past, kept_notes-of-kind-le}
use Rattle.anomaly.proofs.Numbers.{kind-place}
use Rattle.claims.specs.Shape.{count_of_kind}

-- ---- all anomalies, and those that are kept

abbrev pub All : (ResAnomaly → Type 0) → List ResAnomaly → Type 0
All E [] = Unit {0}
All E (x ∷ l) = E x × All E l

pub all_append : (E : ResAnomaly → Type 0) (a b : List ResAnomaly) → All E a → All E b → All E (a ++ b)
all_append E [] b p q = q
all_append E (x ∷ a) b p q = (p.0, all_append E a b p.1 q)

pub all_of : (E F : ResAnomaly → Type 0) → ((x : ResAnomaly) → E x → F x) → (l : List ResAnomaly) → All E l → All F l
all_of E F f [] h = tt
all_of E F f (x ∷ l) h = (f x h.0, all_of E F f l h.1)

kept_from-all : (E : ResAnomaly → Type 0) (cap : ℕ) (counts : List ℕ) (l : List ResAnomaly) → All E l → All E (kept_from cap counts l)
unfolding kept_from
kept_from-all E cap counts [] h = tt
kept_from-all E cap counts (x ∷ l) h =
    go (is_due cap counts (kind_index x)) refl (kept_from-all E cap counts l h.1) (kept_from-all E cap (counted counts (kind_index x)) l h.1)
  where
    go : (b : Bool) → is_due cap counts (kind_index x) ≡ b → All E (kept_from cap counts l) → All E (kept_from cap (counted counts (kind_index x)) l)
        → All E (kept_from cap counts (x ∷ l))
    go true d p q = rw (kept_from-due cap counts x l d) (h.0, q)
    go false d p q = rw (kept_from-past cap counts x l d) p

pub kept-all : (E : ResAnomaly → Type 0) (cap : ℕ) (l : List ResAnomaly) → All E l → All E (kept_notes cap l)
kept-all E cap l h = kept_from-all E cap _ l h

-- ---- numbers and places of kinds

pub number_of : (x : ResAnomaly) (l : List ResAnomaly) → count_of_kind (note_of x).kind (map note_of l) ≡ length (of_place (kind_index x) l)
unfolding of_place
number_of x [] = refl
number_of x (y ∷ l) = rw (kind-place y x) (go (eqb (kind_index y) (kind_index x)) (number_of x l))
  where
    go : (b : Bool) → count_of_kind (note_of x).kind (map note_of l) ≡ length (of_place (kind_index x) l)
        → cond b 1 0 + count_of_kind (note_of x).kind (map note_of l) ≡ length (cond b (y ∷ []) [] ++ of_place (kind_index x) l)
    go true e = omega arith
    go false e = omega arith

-- the number k is that of some anomaly, or no note has it
module _ (k n : ℕ) (whole : List ResAnomaly) (some : (x : ResAnomaly) → (note_of x).kind ≡ k → count_of_kind k (map note_of whole) ≤ n) where
  number-le : (l : List ResAnomaly) → (◌≡◌ {A = ℕ} (count_of_kind k (map note_of l)) 0 → count_of_kind k (map note_of whole) ≤ n) → count_of_kind k (map note_of whole) ≤ n
  number-le [] none = none refl
  number-le (y ∷ l) none = go (eqb (note_of y).kind k) refl (number-le l)
    where
      go : (b : Bool) → eqb (note_of y).kind k ≡ b
          → ((◌≡◌ {A = ℕ} (count_of_kind k (map note_of l)) 0 → count_of_kind k (map note_of whole) ≤ n) → count_of_kind k (map note_of whole) ≤ n)
          → count_of_kind k (map note_of whole) ≤ n
      go true e rest = some y (eqb-true (note_of y).kind k e)
      go false e rest = rest (λ z. none (rw e (omega arith)))

pub kept-number : (cap k : ℕ) (l : List ResAnomaly) → count_of_kind k (map note_of (kept_notes cap l)) ≤ cap
kept-number cap k l =
    number-le k cap (kept_notes cap l)
    (λ x e. rw (← e) (omega (arith, number_of x (kept_notes cap l), kept_notes-of-kind-le cap (kind_index x) l)))
    (kept_notes cap l) (λ z. omega arith)
