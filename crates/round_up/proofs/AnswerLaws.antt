-- What an answer of `add_reading` tells: docs/FORMAT.md, R5, R6. No contract cites this file.
--
--   added-at       where the file was added, each count is raised by its share
--   refused-one    a file that was refused adds to one count, and nothing else
--   full-same      beside a refusal the round-up is the one that came in, and the refusal is 29
--   full-where     29 is given where a count would pass 4,294,967,295; added-fits: and where none would the file is added
--   history-same   the files that met 29 change nothing: the others alone give the same, and none of them meets 29; none-added: where none does, all are added
--   add_numbers-unique   equal numbers are equal answers
use Rattle.std.specs.Prelude.{Result, Ok, Err}
use Prim.Native.Nat.{ℕ, zero, suc, ◌+◌, ◌≤◌, ◌<◌}
use native.Mathlib.Omega.{arith}
use mathlib.Core.Path.{◌≡◌, refl, sym, ◌∙◌, ap, subst}
use mathlib.Core.List.{List, [], ◌∷◌, ◌++◌}
use mathlib.Core.Bool.{Bool, true, false, cond, ◌&&◌, true≢false}
use borrow.Author.Tests.{le-leb, leb-false, eq-eqb}
use lib.ListN.{length, get_or, set, replicate}
use lib.Dec.{leb}
use Rattle.errors.specs.Refusal.{refusal_number, numbers_of}
use Rattle.errors.specs.declared.Refusal.{Refusal}
use Rattle.errors.specs.declared.Refusal.TheVariants.{RoundUpFull}
use Rattle.errors.proofs.Laws.{refusal_number-some, refusal_number-le, refusal_number-unique}
use Rattle.round_up.specs.declared.Added.{Added}
use Rattle.round_up.specs.declared.AddNumbers.{AddNumbers}
use Rattle.round_up.specs.declared.RoundUp.{RoundUp}
use Rattle.round_up.specs.RoundUp.{places, largest, refused_from, refused_share, share_by, share_of, sums, has_room, added_of, full_of, added_to, add_numbers}
use Rattle.round_up.specs.History.{File, share_in, next, after, is_added, NoneFull, added_in}
use Rattle.round_up.proofs.Order.{added-room, room-added}

-- ---- a file that was added

pub sums_at : (l share : List ℕ) (i : ℕ) → length l ≡ length share → get_or (sums l share) i 0 ≡ get_or l i 0 + get_or share i 0
unfolding sums
sums_at [] [] i h = omega arith
sums_at [] (b ∷ share) i h = absurd (let z : ⊥ = omega arith in z)
sums_at (a ∷ l) [] i h = absurd (let z : ⊥ = omega arith in z)
sums_at (a ∷ l) (b ∷ share) zero h = refl
sums_at (a ∷ l) (b ∷ share) (suc i) h = sums_at l share i (omega arith)

pub added-at : (r : RoundUp) (share : List ℕ) (i : ℕ) → length r.counts ≡ length share → (added_to r share).answer ≡ Ok tt
    → get_or (added_to r share).round_up.counts i 0 ≡ get_or r.counts i 0 + get_or share i 0
added-at r share i even e = rw (room-added r share (added-room r share e)) (sums_at r.counts share i even)

-- ---- a file that was refused

sums-zeros : (n : ℕ) (l : List ℕ) → sums l (replicate n 0) ≡ l
unfolding sums
sums-zeros n [] = refl
sums-zeros zero (a ∷ l) = refl
sums-zeros (suc n) (a ∷ l) = let z : a + 0 ≡ a = omega arith in rw (z, sums-zeros n l)

pub sums-one : (n : ℕ) (l : List ℕ) (i : ℕ) → length l ≡ n → i < n → sums l (set (replicate n 0) i 1) ≡ set l i (get_or l i 0 + 1)
unfolding sums
sums-one zero l i h p = absurd (let z : ⊥ = omega arith in z)
sums-one (suc n) [] i h p = absurd (let z : ⊥ = omega arith in z)
sums-one (suc n) (a ∷ l) zero h p = ap (λ (m : List ℕ). (a + 1) ∷ m) (sums-zeros n l)
sums-one (suc n) (a ∷ l) (suc i) h p = let z : a + 0 ≡ a = omega arith in rw (z, sums-one n l i (omega arith) (omega arith))

pub share-refused : (counts : List ℕ) (x : Refusal) (bytes : ℕ) → share_of counts (Err x) bytes ≡ refused_share (refusal_number x)
unfolding share_by numbers_of
share-refused counts x bytes = rw (refusal_number-some x)

pub refused-one : (r : RoundUp) (counts : List ℕ) (x : Refusal) (bytes : ℕ) → length r.counts ≡ places
    → (added_to r (share_of counts (Err x) bytes)).answer ≡ Ok tt
    → (added_to r (share_of counts (Err x) bytes)).round_up.counts
    ≡ set r.counts (refused_from + refusal_number x) (get_or r.counts (refused_from + refusal_number x) 0 + 1)
refused-one r counts x bytes whole e =
    let s = share-refused counts x bytes in
    ap (λ (y : Added). y.round_up.counts) (room-added r (share_of counts (Err x) bytes) (added-room r _ e))
    ∙ ap (sums r.counts) s ∙ sums-one places r.counts (refused_from + refusal_number x) whole (omega (arith, refusal_number-le x))

-- ---- 29

pub full-same : (r : RoundUp) (share : List ℕ) (x : Refusal) → (added_to r share).answer ≡ Err x
    → (x ≡ RoundUpFull) × ((added_to r share).round_up ≡ r)
unfolding added_to
full-same r share x = go (has_room r.counts share)
  where
    go : (b : Bool) → (cond b (added_of (sums r.counts share)) (full_of r)).answer ≡ Err x
        → (x ≡ RoundUpFull) × ((cond b (added_of (sums r.counts share)) (full_of r)).round_up ≡ r)
    go true e = absurd (true≢false (ap is_added e))
    go false e = (cc, refl)

-- a place whose count would pass
Passes : List ℕ → List ℕ → Type 0
Passes l share = (i : ℕ) × (largest < get_or l i 0 + get_or share i 0)

later : (a b : ℕ) (l share : List ℕ) → Passes l share → Passes (a ∷ l) (b ∷ share)
unfolding Passes
later a b l share p = (suc p.0, p.1)

room-where : (l share : List ℕ) → has_room l share ≡ false → Passes l share
unfolding has_room Passes
room-where [] share e = absurd (true≢false e)
room-where (a ∷ l) [] e = absurd (true≢false e)
room-where (a ∷ l) (b ∷ share) e = go (λ q. room-where l share q) (leb (a + b) largest) refl e
  where
    go : (has_room l share ≡ false → Passes l share) → (t : Bool) → leb (a + b) largest ≡ t → (t && has_room l share) ≡ false → Passes (a ∷ l) (b ∷ share)
    go rest false p q = (0, leb-false (a + b) largest p)
    go rest true p q = later a b l share (rest q)

pub full-where : (r : RoundUp) (share : List ℕ) (x : Refusal) → (added_to r share).answer ≡ Err x
    → (i : ℕ) × (largest < get_or r.counts i 0 + get_or share i 0)
unfolding added_to Passes
full-where r share x e = room-where r.counts share (go (has_room r.counts share) e)
  where
    go : (b : Bool) → (cond b (added_of (sums r.counts share)) (full_of r)).answer ≡ Err x → b ≡ false
    go true e = absurd (true≢false (ap is_added e))
    go false e = refl

room-all : (l share : List ℕ) → length l ≡ length share → ((i : ℕ) → get_or l i 0 + get_or share i 0 ≤ largest) → has_room l share ≡ true
unfolding has_room
room-all [] share h p = refl
room-all (a ∷ l) [] h p = refl
room-all (a ∷ l) (b ∷ share) h p = rw (le-leb (a + b) largest (p 0)) (room-all l share (omega arith) (λ i. p (suc i)))

pub added-fits : (r : RoundUp) (share : List ℕ) → length r.counts ≡ length share → ((i : ℕ) → get_or r.counts i 0 + get_or share i 0 ≤ largest)
    → (added_to r share).answer ≡ Ok tt
added-fits r share even p = rw (room-added r share (room-all r.counts share even p))

-- ---- a history

-- what is left of a history is added as a whole, and gives the round-up that all of them gave
pub record Same (r : RoundUp) (added all : List File) : Type 0 where
  pub none : NoneFull r added
  pub same : after r added ≡ after r all

module _ (r : RoundUp) (f : File) (fs : List File) (rest : Same (next r f) (added_in (next r f) fs) fs) where
  history-step : (a : Result (Unit {0}) Refusal) → (added_to r (share_in f)).answer ≡ a → Same r (cond (is_added a) (f ∷ []) [] ++ added_in (next r f) fs) (f ∷ fs)
  unfolding NoneFull after
  history-step (Ok u) e = record { none = (e, rest.none); same = rest.same }
  history-step (Err x) e =
      let back = (full-same r (share_in f) x e).1 in record {
        none = subst (λ (y : RoundUp). NoneFull y (added_in (next r f) fs)) back rest.none;
        same = ap (λ (y : RoundUp). after y (added_in (next r f) fs)) (sym back) ∙ rest.same;
      }

pub history-same : (r : RoundUp) (fs : List File) → Same r (added_in r fs) fs
unfolding NoneFull after added_in
history-same r [] = record { none = tt; same = refl }
history-same r (f ∷ fs) = history-step r f fs (history-same (next r f) fs) (added_to r (share_in f)).answer refl

-- where none meets 29, all of them are the history
pub none-added : (r : RoundUp) (fs : List File) → NoneFull r fs → added_in r fs ≡ fs
unfolding NoneFull added_in
none-added r [] h = refl
none-added r (f ∷ fs) h = rw h.0 (ap (λ (l : List File). f ∷ l) (none-added (next r f) fs h.1))

-- ---- the numbers of an answer

zero-some : (x : Refusal) → refusal_number x ≡ 0 → ⊥
zero-some x e = true≢false (sym (eq-eqb (refusal_number x) 0 e) ∙ refusal_number-some x)

pub add_numbers-unique : (a b : Result (Unit {0}) Refusal) → add_numbers a ≡ add_numbers b → a ≡ b
unfolding add_numbers
add_numbers-unique (Ok u) (Ok v) e = refl
add_numbers-unique (Ok u) (Err y) e = absurd (zero-some y (sym (ap (λ (n : AddNumbers). n.refusal) e)))
add_numbers-unique (Err x) (Ok v) e = absurd (zero-some x (ap (λ (n : AddNumbers). n.refusal) e))
add_numbers-unique (Err x) (Err y) e =
    ap Err (refusal_number-unique x y (ap (λ (n : AddNumbers). n.refusal) e) (ap (λ (n : AddNumbers). n.value) e))
