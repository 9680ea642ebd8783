-- The grid of a history: docs/FORMAT.md, R4, R7. No contract cites this file.
--
--   total-sums    the sum of sums is the sum of both
--   share-grid    what a file adds to the grid is its kept notes, in its class alone; nothing where it was refused
--   grid-total    after any files the grid's sum is the kept notes of those that were added, beside what stood there before
use Rattle.std.specs.Prelude.{Result, Ok, Err}
use Prim.Native.Nat.{ℕ, zero, suc, ◌+◌, ◌-◌, ◌<◌}
use native.Mathlib.Omega.{arith}
use mathlib.Core.Path.{◌≡◌, refl, sym, ◌∙◌, ap}
use mathlib.Core.List.{List, [], ◌∷◌, ◌++◌}
use mathlib.Core.Bool.{Bool, true, false, cond}
use lib.ListN.{length, set, drop, replicate, length-drop}
use lib.Seq.{drop-set-lt, drop-append_seam}
use Rattle.errors.specs.Refusal.{refusal_number, numbers_of}
use Rattle.errors.proofs.Laws.{refusal_number-le, refusal_number-some}
use Rattle.round_up.specs.declared.RoundUp.{RoundUp}
use Rattle.round_up.specs.RoundUp.{classes, places, grid_from, refused_from, empty_round_up, grid_of, row_of, cells_of, class_of, head_of}
use Rattle.round_up.specs.RoundUp.{refused_share, share_by, share_of, sums, has_room, added_of, full_of, added_to}
use Rattle.round_up.specs.History.{File, share_in, next, after, is_added, added_in, total, kept_by, kept_in}
use Rattle.round_up.proofs.Laws.{sums-length}
use Rattle.round_up.proofs.Shares.{class_of-lt, share_by-length}
use Rattle.errors.specs.declared.ReadCounts.{ReadCounts}
use Rattle.errors.specs.declared.Refusal.{Refusal}

-- ---- sums of numbers

pub total-append : (a b : List ℕ) → total (a ++ b) ≡ total a + total b
unfolding total
total-append [] b = omega arith
total-append (n ∷ a) b = omega (arith, total-append a b)

pub total-zeros : (n : ℕ) → ◌≡◌ {A = ℕ} (total (replicate n 0)) 0
unfolding total
total-zeros zero = refl
total-zeros (suc n) = omega (arith, total-zeros n)

pub total-set : (n i v : ℕ) → i < n → total (set (replicate n 0) i v) ≡ v
unfolding total
total-set zero i v h = absurd (let z : ⊥ = omega arith in z)
total-set (suc n) zero v h = omega (arith, total-zeros n)
total-set (suc n) (suc i) v h = omega (arith, total-set n i v (omega arith))

pub total-sums : (a b : List ℕ) → length a ≡ length b → total (sums a b) ≡ total a + total b
unfolding total sums
total-sums [] [] h = omega arith
total-sums [] (y ∷ b) h = absurd (let z : ⊥ = omega arith in z)
total-sums (x ∷ a) [] h = absurd (let z : ⊥ = omega arith in z)
total-sums (x ∷ a) (y ∷ b) h = omega (arith, total-sums a b (omega arith))

pub total-cells : (class : ℕ) (counts : List ℕ) → class < classes → total (cells_of class counts) ≡ total counts
unfolding total
total-cells class [] h = refl
total-cells class (n ∷ counts) h =
    omega (arith, total-append (row_of class n) (cells_of class counts), total-set classes class n h, total-cells class counts h)

pub sums-drop : (n : ℕ) (a b : List ℕ) → length a ≡ length b → drop n (sums a b) ≡ sums (drop n a) (drop n b)
unfolding sums
sums-drop zero a b h = refl
sums-drop (suc n) [] [] h = refl
sums-drop (suc n) [] (y ∷ b) h = absurd (let z : ⊥ = omega arith in z)
sums-drop (suc n) (x ∷ a) [] h = absurd (let z : ⊥ = omega arith in z)
sums-drop (suc n) (x ∷ a) (y ∷ b) h = sums-drop n a b (omega arith)

-- ---- what a file adds to the grid

pub share-grid : (counts : List ℕ) (a : Result ReadCounts Refusal) (len : ℕ) → total (drop grid_from (share_of counts a len)) ≡ kept_by a counts
unfolding share_by numbers_of
share-grid counts (Ok c) len =
    ap total (drop-append_seam head_of (cells_of (class_of len) counts)) ∙ total-cells (class_of len) counts (class_of-lt len)
share-grid counts (Err x) len =
    let none : drop grid_from (refused_share (refusal_number x)) ≡ drop grid_from (replicate places 0) =
    drop-set-lt grid_from (replicate places 0) (refused_from + refusal_number x) 1 (omega (arith, refusal_number-le x)) in
    rw (refusal_number-some x) (ap total none ∙ total-zeros 78)

-- ---- a history

module _ (r : RoundUp) (f : File) (whole : length r.counts ≡ places) where
  share-length : length (share_in f) ≡ places
  share-length = share_by-length f.kept (numbers_of f.answer).refusal f.bytes f.thirteen

  pub next-length : length (next r f).counts ≡ places
  unfolding added_to
  next-length = go (has_room r.counts (share_in f))
    where
      go : (b : Bool) → length (cond b (added_of (sums r.counts (share_in f))) (full_of r)).round_up.counts ≡ places
      go true = sums-length r.counts (share_in f) ∙ whole
      go false = whole

  -- one file: what it adds, where it is added
  pub next-grid : (fs : List File)
      → total (grid_of (next r f)) + kept_in fs ≡ total (grid_of r) + kept_in (cond (is_added (added_to r (share_in f)).answer) (f ∷ []) [] ++ fs)
  unfolding added_to kept_in
  next-grid fs = go (has_room r.counts (share_in f))
    where
      even : length r.counts ≡ length (share_in f)
      even = whole ∙ sym share-length

      go : (b : Bool) → total (grid_of (cond b (added_of (sums r.counts (share_in f))) (full_of r)).round_up) + kept_in fs
          ≡ total (grid_of r) + kept_in (cond (is_added (cond b (added_of (sums r.counts (share_in f))) (full_of r)).answer) (f ∷ []) [] ++ fs)
      go true =
          let parts = ap total (sums-drop grid_from r.counts (share_in f) even) in
          let both = total-sums (drop grid_from r.counts) (drop grid_from (share_in f))
          (length-drop grid_from r.counts ∙ ap (λ (n : ℕ). n - grid_from) even ∙ sym (length-drop grid_from (share_in f))) in
          let kept = share-grid f.kept f.answer f.bytes in
          omega arith
      go false = refl

pub grid-total : (r : RoundUp) (fs : List File) → length r.counts ≡ places → total (grid_of (after r fs)) ≡ total (grid_of r) + kept_in (added_in r fs)
unfolding after added_in kept_in
grid-total r [] whole = omega arith
grid-total r (f ∷ fs) whole =
    grid-total (next r f) fs (next-length r f whole) ∙ next-grid r f whole (added_in (next r f) fs)

-- from the empty round-up on
pub grid-sum : (fs : List File) → total (grid_of (after empty_round_up fs)) ≡ kept_in (added_in empty_round_up fs)
grid-sum fs = grid-total empty_round_up fs refl ∙ omega (arith, total-zeros 78)
