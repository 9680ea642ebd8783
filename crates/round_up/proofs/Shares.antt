-- Laws of what a file adds (specs/RoundUp.antt): classes, rows, and the turns of `read_share`. No contract cites this file.
use Rattle.std.specs.Prelude.{Result, Ok, Err}
use Prim.Native.Nat.{ℕ, suc, ◌+◌, ◌-◌, ◌*◌, ◌<◌}
use native.Mathlib.Omega.{arith}
use native.Mathlib.Numerals.{add-one}
use mathlib.Core.Path.{◌≡◌, refl, sym, ◌∙◌, ap}
use mathlib.Core.List.{List, [], ◌∷◌, ◌++◌, append_assoc, append-nil}
use mathlib.Core.Bool.{Bool, true, false, cond}
use lib.ListN.{length, get_or, set, take, replicate, length-append, length-set, replicate-append-replicate}
use lib.Seq.{take-suc, length-take-le, set-append_left}
use lib.Dec.{leb, eqb}
use Rattle.errors.specs.Refusal.{numbers_of}
use Rattle.errors.proofs.Laws.{refusal_number-le}
use Rattle.errors.specs.declared.Numbers.{Numbers}
use Rattle.round_up.specs.declared.Added.{Added}
use Rattle.round_up.specs.declared.RoundUp.{RoundUp}
use Rattle.round_up.specs.RoundUp.{kinds, classes, numbers, places, refused_from, grid_from, class_bound, class_of, row_of, cells_of, head_of, read_share}
use Rattle.round_up.specs.RoundUp.{refused_share, share_by, share_of, sums, has_room, AddsShare, added_of, full_of, added_to}
use Rattle.round_up.specs.Inner.Turns.{laid_of}
use Rattle.errors.specs.declared.ReadCounts.{ReadCounts}
use Rattle.errors.specs.declared.Refusal.{Refusal}

pub class_of-lt : (n : ℕ) → class_of n < classes
unfolding class_of
class_of-lt n = go (leb n (class_bound 0)) (leb n (class_bound 1)) (leb n (class_bound 2)) (leb n (class_bound 3)) (leb n (class_bound 4))
  where
    go : (a b c d e : Bool) → cond a 0 (cond b 1 (cond c 2 (cond d 3 (cond e 4 5)))) < classes
    go true b c d e = omega arith
    go false true c d e = omega arith
    go false false true d e = omega arith
    go false false false true e = omega arith
    go false false false false true = omega arith
    go false false false false false = omega arith

-- for `share_by`
pub ruleset class_bounds = (class_of-lt)

pub set-append-add : (xs ys : List ℕ) (n : ℕ) (a : ℕ) → set (xs ++ ys) (length xs + n) a ≡ xs ++ set ys n a
set-append-add [] ys n a = ap (λ (i : ℕ). set ys i a) (let z : 0 + n ≡ n = omega arith in z)
set-append-add (x ∷ xs) ys n a =
    ap (λ (i : ℕ). set (x ∷ (xs ++ ys)) i a) (let z : suc (length xs) + n ≡ suc (length xs + n) = omega arith in z)
    ∙ ap (λ (l : List ℕ). x ∷ l) (set-append-add xs ys n a)

pub cells_of-append : (class : ℕ) (a b : List ℕ) → cells_of class (a ++ b) ≡ cells_of class a ++ cells_of class b
cells_of-append class [] b = refl
cells_of-append class (n ∷ a) b =
    ap (λ (l : List ℕ). row_of class n ++ l) (cells_of-append class a b) ∙ sym (append_assoc (row_of class n) (cells_of class a) (cells_of class b))

pub cells_of-length : (class : ℕ) (l : List ℕ) → length (cells_of class l) ≡ classes * length l
cells_of-length class [] = refl
cells_of-length class (n ∷ l) =
    length-append (row_of class n) (cells_of class l)
    ∙ (let a = length-set (replicate {A = ℕ} classes 0) class n in let b = cells_of-length class l in omega arith)

-- ---- the turns of `read_share`

-- the cells of the kinds from k on, before they are laid down
zeros_for : ℕ → List ℕ
zeros_for k = replicate (classes * (kinds - k)) 0

zeros-split : (k : ℕ) → k < kinds → zeros_for k ≡ replicate classes 0 ++ zeros_for (k + 1)
unfolding zeros_for
zeros-split k h =
    ap (λ (n : ℕ). replicate {A = ℕ} n 0) (let z : classes * (kinds - k) ≡ classes + classes * (kinds - (k + 1)) = omega arith in z)
    ∙ sym (replicate-append-replicate {A = ℕ} classes (classes * (kinds - (k + 1))) 0)

module _ (class : ℕ) (counts : List ℕ) (inside : class < classes) (whole : length counts ≡ kinds) where
  rows-length : (k : ℕ) → k < kinds → length (cells_of class (take k counts)) ≡ classes * k
  rows-length k h = cells_of-length class (take k counts) ∙ ap (λ (n : ℕ). classes * n) (length-take-le k counts (omega arith))

  rows_more : (k : ℕ) → k < kinds → cells_of class (take (k + 1) counts) ≡ cells_of class (take k counts) ++ row_of class (get_or counts k 0)
  rows_more k h =
      ap (cells_of class) (ap (λ (n : ℕ). take n counts) (add-one k) ∙ take-suc counts k 0 (omega arith))
      ∙ cells_of-append class (take k counts) (get_or counts k 0 ∷ [])
      ∙ ap (λ (l : List ℕ). cells_of class (take k counts) ++ l) (append-nil (row_of class (get_or counts k 0)))

  -- the cell of the kind k is set behind the rows before it
  row-set : (k v : ℕ) → k < kinds → set (zeros_for k) class v ≡ row_of class v ++ zeros_for (k + 1)
  row-set k v h = ap (λ (l : List ℕ). set l class v) (zeros-split k h) ∙ set-append_left (replicate {A = ℕ} classes 0) (zeros_for (k + 1)) class v inside

  pub laid-turn : (k j : ℕ) → k < kinds → j ≡ grid_from + (classes * k + class) → set (laid_of class counts k) j (get_or counts k 0) ≡ laid_of class counts (k + 1)
  unfolding zeros_for
  laid-turn k j h e =
      let v = get_or counts k 0 in
      let done = cells_of class (take k counts) in
      let long = rows-length k h in
      let at : j ≡ length head_of + (length done + class) = omega arith in
      ap (λ (i : ℕ). set (laid_of class counts k) i v) at
      ∙ set-append-add head_of (done ++ zeros_for k) (length done + class) v
      ∙ ap (λ (l : List ℕ). head_of ++ l)
      (set-append-add done (zeros_for k) class v
      ∙ ap (λ (l : List ℕ). done ++ l) (row-set k v h)
      ∙ sym (append_assoc done (row_of class v) (zeros_for (k + 1)))
      ∙ ap (λ (l : List ℕ). l ++ zeros_for (k + 1)) (sym (rows_more k h)))

-- ---- a share

-- the number of an answer has a place
pub number_lt : (a : Result ReadCounts Refusal) → (numbers_of a).refusal < numbers
unfolding numbers_of
number_lt (Ok c) = omega arith
number_lt (Err r) = omega (arith, refusal_number-le r)

pub share_by-length : (counts : List ℕ) (number len : ℕ) → length counts ≡ kinds → length (share_by counts number len) ≡ places
unfolding share_by
share_by-length counts number len h = go (eqb number 0)
  where
    go : (b : Bool) → length (cond b (read_share counts (class_of len)) (refused_share number)) ≡ places
    go true = length-append head_of (cells_of (class_of len) counts) ∙ (let e = cells_of-length (class_of len) counts in omega arith)
    go false = length-set (replicate {A = ℕ} places 0) (refused_from + number) 1

-- ---- adding a share, and the answer of `add_reading`

module _ (r : RoundUp) (counts : List ℕ) (a : Result ReadCounts Refusal) (len : ℕ) (n : Numbers) (share : List ℕ) (told : n ≡ numbers_of a)
    (shared : share ≡ share_by counts n.refusal len) (room : Bool) (after : List ℕ) (adds : AddsShare r.counts share room after) where
  share-told : share ≡ share_of counts a len
  share-told = shared ∙ ap (λ (m : Numbers). share_by counts m.refusal len) told

  pub added-of-room : room ≡ true → (x : Added) → x ≡ added_of after → x ≡ added_to r (share_of counts a len)
  unfolding added_to
  added-of-room h x d =
      let q : has_room r.counts share ≡ true = sym adds.room ∙ h in
      let e : after ≡ sums r.counts share = adds.counts ∙ rw q in
      let f : added_to r share ≡ added_of (sums r.counts share) = rw q in
      d ∙ ap added_of e ∙ sym f ∙ ap (added_to r) share-told

  pub added-of-full : room ≡ false → (x : Added) → x ≡ full_of r → x ≡ added_to r (share_of counts a len)
  unfolding added_to
  added-of-full h x d =
      let q : has_room r.counts share ≡ false = sym adds.room ∙ h in
      let f : added_to r share ≡ full_of r = rw q in
      d ∙ sym f ∙ ap (added_to r) share-told
