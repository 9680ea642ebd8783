-- The order of files does not matter: docs/FORMAT.md, R8. No contract cites this file.
--
--   sums-swap, has_room-swap   two shares added in either order: the same counts, and room in both or in none
--   order_same                where none of the files meets 29, none does in any other order, and the round-up is the same
use Rattle.std.specs.Prelude.{Ok}
use Prim.Native.Nat.{ℕ, ◌+◌}
use native.Mathlib.Omega.{arith}
use mathlib.Core.Path.{◌≡◌, refl, sym, ◌∙◌, ap, subst}
use mathlib.Core.List.{List, [], ◌∷◌}
use mathlib.Core.List.{Permᴰ}
use mathlib.Core.Bool.{Bool, true, false, cond, ◌&&◌, true≢false}
use borrow.Author.Tests.{le-leb, leb-true}
use lib.Dec.{leb}
use Rattle.round_up.specs.declared.Added.{Added}
use Rattle.round_up.specs.declared.RoundUp.{RoundUp}
use Rattle.round_up.specs.RoundUp.{largest, sums, has_room, added_of, full_of, added_to}
use Rattle.round_up.specs.History.{File, share_in, next, after, is_added, NoneFull}
use Rattle.round_up.proofs.Laws.{and_left, and_right, has_room-none}

pub sums_none : (l : List ℕ) → sums l [] ≡ l
unfolding sums
sums_none [] = refl
sums_none (a ∷ l) = refl

pub sums-swap : (l a b : List ℕ) → sums (sums l a) b ≡ sums (sums l b) a
unfolding sums
sums-swap [] a b = refl
sums-swap (x ∷ l) [] b = sym (sums_none (sums (x ∷ l) b))
sums-swap (x ∷ l) (p ∷ a) [] = refl
sums-swap (x ∷ l) (p ∷ a) (q ∷ b) =
    let e : x + p + q ≡ x + q + p = omega arith in
    rw (e, sums-swap l a b)

both : (a b : Bool) → a ≡ true → b ≡ true → (a && b) ≡ true
both true b p q = q
both false b p q = p

-- room for a, and then for b, is room for b, and then for a
pub has_room-swap : (l a b : List ℕ) → has_room l a ≡ true → has_room (sums l a) b ≡ true → (has_room l b ≡ true) × (has_room (sums l b) a ≡ true)
unfolding sums has_room
has_room-swap [] a b p q = (refl, refl)
has_room-swap (x ∷ l) [] b p q = (q, has_room-none (sums (x ∷ l) b))
has_room-swap (x ∷ l) (m ∷ a) [] p q = (refl, p)
has_room-swap (x ∷ l) (m ∷ a) (n ∷ b) p q =
    let first = leb-true (x + m) largest (and_left _ (has_room l a) p) in
    let second = leb-true (x + m + n) largest (and_left _ (has_room (sums l a) b) q) in
    let rest = has_room-swap l a b (and_right (leb (x + m) largest) _ p) (and_right (leb (x + m + n) largest) _ q) in (
      both (leb (x + n) largest) _ (le-leb (x + n) largest (omega arith)) rest.0,
      both (leb (x + n + m) largest) _ (le-leb (x + n + m) largest (omega arith)) rest.1,
    )

-- ---- one file

-- the answer tells whether there is room
pub added-room : (r : RoundUp) (share : List ℕ) → (added_to r share).answer ≡ Ok tt → has_room r.counts share ≡ true
unfolding added_to
added-room r share = go (has_room r.counts share)
  where
    go : (b : Bool) → (cond b (added_of (sums r.counts share)) (full_of r)).answer ≡ Ok tt → b ≡ true
    go true e = refl
    go false e = absurd (true≢false (sym (ap is_added e)))

pub room-added : (r : RoundUp) (share : List ℕ) → has_room r.counts share ≡ true → added_to r share ≡ added_of (sums r.counts share)
unfolding added_to
room-added r share h = rw h

abbrev with-counts : List ℕ → RoundUp
with-counts l = record { counts = l }

module _ (r : RoundUp) (a b : File) (first : (added_to r (share_in a)).answer ≡ Ok tt) (second : (added_to (next r a) (share_in b)).answer ≡ Ok tt) where
  counts-a : next r a ≡ with-counts (sums r.counts (share_in a))
  counts-a = ap (λ (x : Added). x.round_up) (room-added r (share_in a) (added-room r (share_in a) first))

  room-b : has_room (sums r.counts (share_in a)) (share_in b) ≡ true
  room-b = rw counts-a at (added-room (next r a) (share_in b) second)

  swapped : (has_room r.counts (share_in b) ≡ true) × (has_room (sums r.counts (share_in b)) (share_in a) ≡ true)
  swapped = has_room-swap r.counts (share_in a) (share_in b) (added-room r (share_in a) first) room-b

  counts-b : next r b ≡ with-counts (sums r.counts (share_in b))
  counts-b = ap (λ (x : Added). x.round_up) (room-added r (share_in b) swapped.0)

  pub swap-first : (added_to r (share_in b)).answer ≡ Ok tt
  swap-first = rw (room-added r (share_in b) swapped.0)

  pub swap-second : (added_to (next r b) (share_in a)).answer ≡ Ok tt
  swap-second = rw (counts-b, room-added (with-counts (sums r.counts (share_in b))) (share_in a) swapped.1)

  pub swap-same : next (next r a) b ≡ next (next r b) a
  swap-same =
      ap (λ (x : RoundUp). next x b) counts-a
      ∙ ap (λ (x : Added). x.round_up) (room-added (with-counts (sums r.counts (share_in a))) (share_in b) room-b)
      ∙ ap with-counts (sums-swap r.counts (share_in a) (share_in b))
      ∙ sym (ap (λ (x : Added). x.round_up) (room-added (with-counts (sums r.counts (share_in b))) (share_in a) swapped.1))
      ∙ sym (ap (λ (x : RoundUp). next x a) counts-b)

-- ---- any order

pub order_same : {fs gs : List File} → Permᴰ fs gs → (r : RoundUp) → NoneFull r fs → NoneFull r gs × (after r fs ≡ after r gs)
unfolding NoneFull after
order_same Permᴰ.nil r h = (h, refl)
order_same (Permᴰ.cons {a} {b} {l₁} {l₂} e p) r h =
    let rest = order_same p (next r b) (subst (λ (x : File). NoneFull (next r x) l₁) e h.1) in
    ((subst (λ (x : File). (added_to r (share_in x)).answer ≡ Ok tt) e h.0, rest.0), ap (λ (x : File). after (next r x) l₁) e ∙ rest.1)
order_same (Permᴰ.swap {a} {b} {a'} {b'} {l} e d) r h =
    let same = swap-same r a b h.0 h.1.0 in
    let rest : NoneFull (next (next r b) a) l = subst (λ (x : RoundUp). NoneFull x l) same h.1.1 in
    let turned : NoneFull r (b ∷ a ∷ l) = (swap-first r a b h.0 h.1.0, (swap-second r a b h.0 h.1.0, rest)) in
    (subst (NoneFull r) (lists e d) turned, ap (λ (x : RoundUp). after x l) same ∙ ap (after r) (lists e d))
  where
    lists : a ≡ b' → b ≡ a' → ◌≡◌ {A = List File} (b ∷ a ∷ l) (a' ∷ b' ∷ l)
    lists p q = rw (p, q)
order_same (Permᴰ.trans p q) r h =
    let one = order_same p r h in
    let two = order_same q r one.0 in
    (two.0, one.1 ∙ two.1)
