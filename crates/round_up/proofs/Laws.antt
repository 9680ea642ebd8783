-- Laws of `sums` and `has_room` (specs/RoundUp.antt), for the two loops and for what follows of a history. No contract cites this file.
-- In order: lengths; one place; the end and the turns of the loops.
use Prim.Native.Nat.{ℕ, suc, ◌+◌, ◌-◌, ◌≤◌, ◌<◌}
use native.Mathlib.Omega.{arith}
use native.Mathlib.Numerals.{add-one}
use mathlib.Core.Path.{◌≡◌, refl, sym, ◌∙◌, ap}
use mathlib.Core.List.{List, [], ◌∷◌, ◌++◌, append_assoc, append-nil}
use mathlib.Core.Bool.{Bool, true, false, ◌&&◌}
use borrow.Author.Tests.{le-leb, lt-leb, leb-true}
use lib.ListN.{length, get_or, set, take, drop, length-set, drop_of_length-le}
use lib.Seq.{drop-cons, take_all, take-suc-set, drop-set-lt}
use lib.Dec.{leb}
use Rattle.round_up.specs.RoundUp.{largest, sums, has_room}

pub sums-length : (l share : List ℕ) → length (sums l share) ≡ length l
unfolding sums
sums-length [] share = refl
sums-length (a ∷ l) [] = refl
sums-length (a ∷ l) (b ∷ share) = ap suc (sums-length l share)

pub and_left : (a b : Bool) → (a && b) ≡ true → a ≡ true
and_left true b e = refl
and_left false b e = e

pub and_right : (a b : Bool) → (a && b) ≡ true → b ≡ true
and_right true b e = e
and_right false true e = refl
and_right false false e = e

-- ---- a place i of counts and of their shares

module _ (l share : List ℕ) (i : ℕ) (here : i < length l) (there : i < length share) where
  pub has_room-past : largest - get_or share i 0 < get_or l i 0 → has_room (drop i l) (drop i share) ≡ false
  unfolding has_room
  has_room-past h =
      rw (drop-cons l i 0 here, drop-cons share i 0 there, lt-leb (get_or l i 0 + get_or share i 0) largest (omega arith))

  pub has_room-next : get_or share i 0 ≤ largest → get_or l i 0 ≤ largest - get_or share i 0
      → has_room (drop i l) (drop i share) ≡ has_room (drop (i + 1) l) (drop (i + 1) share)
  unfolding has_room
  has_room-next b h =
      rw (add-one i, drop-cons l i 0 here, drop-cons share i 0 there, le-leb (get_or l i 0 + get_or share i 0) largest (omega arith))

  pub has_room-here : has_room (drop i l) (drop i share) ≡ true → get_or l i 0 + get_or share i 0 ≤ largest
  unfolding has_room
  has_room-here h =
      let e = rw (drop-cons l i 0 here, drop-cons share i 0 there) at h in
      leb-true (get_or l i 0 + get_or share i 0) largest (and_left _ _ e)

  pub has_room-rest : has_room (drop i l) (drop i share) ≡ true → has_room (drop (i + 1) l) (drop (i + 1) share) ≡ true
  unfolding has_room
  has_room-rest h =
      let e = rw (drop-cons l i 0 here, drop-cons share i 0 there) at h in
      rw (add-one i) (and_right (leb (get_or l i 0 + get_or share i 0) largest) _ e)

  -- the counts up to i are summed, and one more is
  pub sums-turn : take (i + 1) (set l i (get_or l i 0 + get_or share i 0)) ++ sums (drop (i + 1) (set l i (get_or l i 0 + get_or share i 0))) (drop (i + 1) share)
      ≡ take i l ++ sums (drop i l) (drop i share)
  unfolding sums
  sums-turn =
      rw (
        add-one i,
        take-suc-set l i (get_or l i 0 + get_or share i 0) here,
        drop-set-lt (suc i) l i (get_or l i 0 + get_or share i 0) (omega arith),
        drop-cons l i 0 here,
        drop-cons share i 0 there,
      ) (append_assoc (take i l) _ _)

-- counts that nothing is added to have room
pub has_room-none : (l : List ℕ) → has_room l [] ≡ true
unfolding has_room
has_room-none [] = refl
has_room-none (a ∷ l) = refl

pub has_room-end : (l share : List ℕ) (i : ℕ) → length l ≤ i → has_room (drop i l) (drop i share) ≡ true
unfolding has_room
has_room-end l share i h = rw (drop_of_length-le l h)

-- ---- the loop of `add_share`

-- the counts before i are summed, and the others stand as they were
pub record Adding (before share counts : List ℕ) (i : ℕ) : Type 0 where
  pub within : i ≤ length counts
  pub long : length counts ≡ length before
  pub room : has_room (drop i counts) (drop i share) ≡ true
  pub same : take i counts ++ sums (drop i counts) (drop i share) ≡ sums before share

pub adding-next : (before share counts : List ℕ) (i : ℕ) → length before ≡ length share → i < length counts → Adding before share counts i
    → Adding before share (set counts i (get_or counts i 0 + get_or share i 0)) (i + 1)
adding-next before share counts i whole h a =
    let v = get_or counts i 0 + get_or share i 0 in
    let there : i < length share = omega arith in
    let same-long = length-set counts i v in
    record {
      within = omega arith;
      long = omega arith;
      room = rw (drop-set-lt (i + 1) counts i v (omega arith)) (has_room-rest counts share i h there a.room);
      same = sums-turn counts share i h there ∙ a.same;
    }

pub adding-last : (before share counts : List ℕ) (i : ℕ) → length counts ≤ i → Adding before share counts i → counts ≡ sums before share
unfolding sums
adding-last before share counts i h a =
    let e : take i counts ++ sums (drop i counts) (drop i share) ≡ counts =
    rw (drop_of_length-le counts h, take_all i counts h) (append-nil counts) in
    sym e ∙ a.same
