-- Laws of specs/Flags.antt. No contract cites this file.
-- In order: `count_ones` is the sum of the bits (`ones-sum`); a taken value's bits are apart from what is then left (`bit_sum-apart`), and
-- there is one at least (`bit_sum-some`); the taken values and what is left make the data again (`taken-sum`); nothing is uncovered
-- exactly where the taken values make the whole data (`uncovered-none`, `uncovered-whole`).
use Prim.Native.Nat.{ℕ, zero, suc, ◌+◌, ◌-◌, ◌*◌, ◌/◌, ◌%◌, ◌^◌, ◌≤◌, ◌<◌}
use mathlib.Core.Path.{◌≡◌, refl, ap, ◌∙◌}
use mathlib.Core.List.{List, [], ◌∷◌}
use mathlib.Core.Bool.{Bool, true, false, not}
use native.Mathlib.Omega.{arith}
use native.Mathlib.Nat.{pow-suc}
use borrow.Author.Tests.{eqb-true, eqb-false, not-true}
use lib.Dec.{eqb}
use lib.Count.{ones, ones_in, ones_step}
use lib.Bits.{bit_and, bit_xor, and_step, and_comm, and_le_r, xor_add_and}
use Rattle.utf.proofs.Tables.{both_true}
use Rattle.items.specs.declared.Item.{Item}
use Rattle.items.specs.Flags.{takes, taken, left_of, bit_sum, uncovered, sum_of}

-- ---- the sum of the bits

pub ones-sum : (k n : ℕ) → n < 2 ^ k → ones n ≡ bit_sum k n
unfolding ones ones_in bit_sum
ones-sum zero n h = let e : n ≡ 0 = omega arith in ap ones e
ones-sum (suc k) n h =
    ones_step n ∙ ap (λ (m : ℕ). n % 2 + m) (ones-sum k (n / 2) (let e : n < 2 ^ k * 2 = rw (pow-suc 2 k) at h in omega arith))

pub bit_sum-le : (k n : ℕ) → bit_sum k n ≤ k
unfolding bit_sum
bit_sum-le zero n = omega arith
bit_sum-le (suc k) n = let h = bit_sum-le k (n / 2) in omega arith

bit_sum-none : (k : ℕ) → bit_sum k 0 ≡ 0
unfolding bit_sum
bit_sum-none zero = refl
bit_sum-none (suc k) = let h = bit_sum-none k in omega arith

pub bit_sum-zero : (k n : ℕ) → n < 2 ^ k → bit_sum k n ≡ 0 → n ≡ 0
unfolding bit_sum
bit_sum-zero zero n h e = omega arith
bit_sum-zero (suc k) n h e =
    let g : n < 2 ^ k * 2 = rw (pow-suc 2 k) at h in
    let z : n / 2 ≡ 0 = bit_sum-zero k (n / 2) (omega arith) (omega arith) in
    omega arith

pub bit_sum-some : (k n : ℕ) → n < 2 ^ k → (n ≡ 0 → ⊥) → 1 ≤ bit_sum k n
bit_sum-some k n h p = go (bit_sum k n) refl
  where
    go : (m : ℕ) → bit_sum k n ≡ m → 1 ≤ m
    go zero e = absurd (p (bit_sum-zero k n h e))
    go (suc m) e = omega arith

-- v has no bit that a has not
half-part : (a v : ℕ) → bit_and v a ≡ v → (bit_and (v / 2) (a / 2) ≡ v / 2) × (v % 2 ≤ a % 2) × (v / 2 ≤ a / 2)
half-part a v h =
    let s = and_step v a in
    let e : bit_and (v / 2) (a / 2) ≡ v / 2 = omega arith in
    (e, omega arith, omega (arith, and_le_r (v / 2) (a / 2), e))

pub bit_sum-apart : (k a v : ℕ) → bit_and v a ≡ v → bit_sum k a ≡ bit_sum k (a - v) + bit_sum k v
unfolding bit_sum
bit_sum-apart zero a v h = refl
bit_sum-apart (suc k) a v h =
    let p = half-part a v h in
    let e : (a - v) / 2 ≡ a / 2 - v / 2 = omega (arith, p.1, p.2) in
    let f : (a - v) % 2 ≡ a % 2 - v % 2 = omega (arith, p.1, p.2) in
    let g = bit_sum-apart k (a / 2) (v / 2) p.0 in
    rw (e, f) (omega (arith, p.1, g))

-- ---- one item

-- its bits are all there, so that the three ways to take them away are one
pub xor-less : (a v : ℕ) → bit_and v a ≡ v → bit_xor a v ≡ a - v
xor-less a v h = omega (arith, xor_add_and a v, and_comm a v, h)

pub record Takes (left v : ℕ) : Type 0 where
  pub some : v ≡ 0 → ⊥
  pub part : bit_and v left ≡ v
  pub less : bit_xor left v ≡ left - v
  pub fits : v ≤ left

pub takes-true : (left v : ℕ) → takes left v ≡ true → Takes left v
takes-true left v e =
    let b = both_true (not (eqb v 0)) (eqb (bit_and v left) v) e in
    let p = eqb-true (bit_and v left) v b.1 in
    record {
      some = eqb-false v 0 (not-true (eqb v 0) b.0);
      part = p;
      less = xor-less left v p;
      fits = omega (arith, and_le_r v left, p);
    }

-- ---- the items in turn

pub taken-sum : (n : ℕ) (is : List Item) → sum_of (taken n is) + left_of n is ≡ n
unfolding taken left_of sum_of
taken-sum n [] = omega arith
taken-sum n (i ∷ is) = go (takes n i.value) refl (taken-sum (bit_xor n i.value) is) (taken-sum n is)
  where
    go
        : (b : Bool)
        → takes n i.value ≡ b
        → sum_of (taken (bit_xor n i.value) is) + left_of (bit_xor n i.value) is ≡ bit_xor n i.value
        → sum_of (taken n is) + left_of n is ≡ n
        → sum_of (taken n (i ∷ is)) + left_of n (i ∷ is) ≡ n
    go true e r s =
        let t = takes-true n i.value e in
        rw e (omega (arith, r, t.less, t.fits))
    go false e r s = rw e s

pub left_of-le : (n : ℕ) (is : List Item) → left_of n is ≤ n
left_of-le n is = omega (arith, taken-sum n is)

module _ (n : ℕ) (is : List Item) (short : n < 4294967296) where
  pub uncovered-none : uncovered n is ≡ 0 → sum_of (taken n is) ≡ n
  uncovered-none e = omega (arith, taken-sum n is, bit_sum-zero 32 (left_of n is) (omega (arith, left_of-le n is)) e)

  pub uncovered-whole : sum_of (taken n is) ≡ n → uncovered n is ≡ 0
  uncovered-whole e = let z : left_of n is ≡ 0 = omega (arith, taken-sum n is) in rw z (bit_sum-none 32)
