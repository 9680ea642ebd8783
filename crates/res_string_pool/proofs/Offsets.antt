-- Laws of the offsets of specs/Pool.antt, for this crate and those above. No contract cites this file.
-- In order: one offset in a rest, in a front, and where more follows (`offset_of-drop`, `-take`, `-append`); how many are outside,
-- step by step and at most (`outside_of-out`, `-in`, `-le`), and by the offsets alone (`outside_of-same`, `-take`, `-append`).
use Prim.Native.Nat.{ℕ, zero, suc, ◌+◌, ◌*◌, ◌≤◌, ◌<◌}
use native.Mathlib.Omega.{arith}
use native.Mathlib.Numerals.{add-one}
use mathlib.Core.Path.{◌≡◌, refl}
use mathlib.Core.List.{List, ◌++◌}
use mathlib.Core.Bool.{Bool, true, false, cond}
use borrow.Author.Tests.{le-leb, lt-leb}
use lib.ListN.{length, take, drop}
use lib.Seq.{get_or-take}
use lib.Dec.{leb}
use Rattle.field.specs.Le.{u16le, u32le}
use Rattle.field.proofs.Laws.{u32le-append, u32le-drop}
use Rattle.res_string_pool.specs.Pool.{offset_of, outside_of}

-- ---- one offset

pub offset_of-drop : (s : List ℕ) (n i : ℕ) → offset_of (drop n s) i ≡ u32le s (n + 4 * i)
unfolding offset_of
offset_of-drop s n i = u32le-drop s n (4 * i)

pub offset_of-append : (c m : List ℕ) (i : ℕ) → 4 * i + 4 ≤ length c → offset_of (c ++ m) i ≡ offset_of c i
unfolding offset_of
offset_of-append c m i h = u32le-append c m (4 * i) h

pub offset_of-take : (n : ℕ) (o : List ℕ) (i : ℕ) → 4 * i + 4 ≤ n → offset_of (take n o) i ≡ offset_of o i
unfolding offset_of u32le u16le
offset_of-take n o i h =
    rw (
      get_or-take n o (4 * i) 0 (omega arith),
      get_or-take n o (4 * i + 1) 0 (omega arith),
      get_or-take n o (4 * i + 2) 0 (omega arith),
      get_or-take n o (4 * i + 2 + 1) 0 (omega arith),
    )

-- ---- how many are outside

module _ (o : List ℕ) (size : ℕ) where
  -- one offset more, and it is outside
  pub outside_of-out : (n : ℕ) → size ≤ offset_of o n → outside_of o size (n + 1) ≡ outside_of o size n + 1
  unfolding outside_of
  outside_of-out n p = rw (add-one n, le-leb size (offset_of o n) p)

  -- one offset more, and it is inside
  pub outside_of-in : (n : ℕ) → offset_of o n < size → outside_of o size (n + 1) ≡ outside_of o size n
  unfolding outside_of
  outside_of-in n p =
      let e : outside_of o size (suc n) ≡ outside_of o size n + 0 = rw (lt-leb size (offset_of o n) p) in
      rw (add-one n) (omega arith)

  pub outside_of-le : (n : ℕ) → outside_of o size n ≤ n
  unfolding outside_of
  outside_of-le zero = omega arith
  outside_of-le (suc n) = go (leb size (offset_of o n)) (outside_of-le n)
    where
      go : (b : Bool) → outside_of o size n ≤ n → outside_of o size n + cond b 1 0 ≤ suc n
      go true h = omega arith
      go false h = omega arith

pub outside_of-same
    : (o o' : List ℕ) (size n : ℕ)
    → ((i : ℕ) → i < n → offset_of o i ≡ offset_of o' i)
    → outside_of o size n ≡ outside_of o' size n
unfolding outside_of
outside_of-same o o' size zero h = refl
outside_of-same o o' size (suc n) h = rw (h n (omega arith), outside_of-same o o' size n (λ i p. h i (omega arith)))

pub outside_of-take : (k : ℕ) (o : List ℕ) (size n : ℕ) → 4 * n ≤ k → outside_of (take k o) size n ≡ outside_of o size n
outside_of-take k o size n h = outside_of-same (take k o) o size n (λ i p. offset_of-take k o i (omega arith))

pub outside_of-append : (c m : List ℕ) (size n : ℕ) → 4 * n ≤ length c → outside_of (c ++ m) size n ≡ outside_of c size n
outside_of-append c m size n h = outside_of-same (c ++ m) c size n (λ i p. offset_of-append c m i (omega arith))
