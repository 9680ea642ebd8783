-- Laws of specs/Content.antt, for the functions and for the crates above. No contract cites this file.
-- In order: the cases of a length (`width8-..`, `length8-..`, `split16-..`); a content lies in its list, with its closing bytes
-- (`split_of-fits`, `split_of-closed`); UTF-16 content is whole units (`split_of-utf16`).
use Rattle.std.specs.Prelude.{Some, None}
use Prim.Native.Nat.{ℕ, ◌+◌, ◌*◌, ◌%◌, ◌≤◌, ◌<◌}
use native.Mathlib.Omega.{arith}
use mathlib.Core.Path.{◌≡◌, refl, sym, ap}
use mathlib.Core.List.{List}
use mathlib.Core.Bool.{Bool, true, false}
use borrow.Author.Tests.{leb-true, leb-false, le-leb, lt-leb}
use lib.ListN.{length}
use lib.Dec.{leb}
use Rattle.field.specs.Le.{u8le, u16le}
use Rattle.res_string_pool.specs.Content.{width8, length8, width16, length16, within, split8, split16, split_of}

-- ---- the cases of a length

module _ (l : List ℕ) (at : ℕ) where
  pub width8-one : u8le l at < 128 → width8 l at ≡ 1
  width8-one p = rw (lt-leb 128 (u8le l at) p)

  pub length8-one : u8le l at < 128 → length8 l at ≡ u8le l at
  length8-one p = rw (lt-leb 128 (u8le l at) p)

module _ (l : List ℕ) where
  pub split16-two : 32768 ≤ u16le l 0 → split16 l ≡ within l 4 (2 * (u16le l 0 % 32768 * 65536 + u16le l 2)) 2
  unfolding split16
  split16-two p = rw (le-leb 32768 (u16le l 0) p)

  pub split16-one : u16le l 0 < 32768 → split16 l ≡ within l 2 (2 * u16le l 0) 2
  unfolding split16
  split16-one p = rw (lt-leb 32768 (u16le l 0) p)

-- the parts as they are read, one behind the other
pub split8-by : (l : List ℕ) (a n b : ℕ) → a ≡ width8 l 0 → n ≡ length8 l a → b ≡ width8 l a → within l (a + b) n 1 ≡ split8 l
unfolding split8
split8-by l a n b p q r = rw (q, r, p)

pub split16-by-two : (l : List ℕ) (n : ℕ) → 32768 ≤ u16le l 0 → n ≡ 2 * (u16le l 0 % 32768 * 65536 + u16le l 2) → within l 4 n 2 ≡ split16 l
split16-by-two l n p e = rw e (sym (split16-two l p))

pub split16-by-one : (l : List ℕ) (n : ℕ) → u16le l 0 < 32768 → n ≡ 2 * u16le l 0 → within l 2 n 2 ≡ split16 l
split16-by-one l n p e = rw e (sym (split16-one l p))

-- ---- a content lies in its list

module _ (l : List ℕ) (at n closing : ℕ) where
  pub within-content : at + n + closing ≤ length l → within l at n closing ≡ Some (at, n)
  within-content p = rw (le-leb (at + n + closing) (length l) p)

  pub within-cut : length l < at + n + closing → within l at n closing ≡ None
  within-cut p = rw (lt-leb (at + n + closing) (length l) p)

  pub within-fits : {k u : ℕ} → within l at n closing ≡ Some (k, u) → (at ≡ k) × (n ≡ u) × (k + u + closing ≤ length l)
  within-fits {k} {u} e = go (leb (at + n + closing) (length l)) refl
    where
      go : (b : Bool) → leb (at + n + closing) (length l) ≡ b → (at ≡ k) × (n ≡ u) × (k + u + closing ≤ length l)
      go true t =
          let p : at + n + closing ≤ length l = leb-true (at + n + closing) (length l) t in
          let s = within-content p in
          let both : ◌≡◌ {A = ℕ × ℕ} (at, n) (k, u) = cc in
          let a : at ≡ k = ap (λ (pair : ℕ × ℕ). pair.0) both in
          let b : n ≡ u = ap (λ (pair : ℕ × ℕ). pair.1) both in
          (a, b, omega arith)
      go false t =
          let s = within-cut (leb-false (at + n + closing) (length l) t) in
          let z : ◌≡◌ {A = ℕ} 0 1 = cc in
          absurd (let y : ⊥ = omega arith in y)

-- with at least one closing byte behind it
pub split_of-closed : (utf16 : Bool) (l : List ℕ) {k n : ℕ} → split_of utf16 l ≡ Some (k, n) → k + n + 1 ≤ length l
unfolding split8 split16
split_of-closed true l e = let q = within-fits l (width16 l) (2 * length16 l) 2 e in omega arith
split_of-closed false l e = let q = within-fits l (width8 l 0 + width8 l (width8 l 0)) (length8 l (width8 l 0)) 1 e in omega arith

pub split_of-fits : (utf16 : Bool) (l : List ℕ) {k n : ℕ} → split_of utf16 l ≡ Some (k, n) → k + n ≤ length l
split_of-fits utf16 l e = let q = split_of-closed utf16 l e in omega arith

-- ---- UTF-16 content is whole units

pub split_of-utf16 : (l : List ℕ) {k n : ℕ} → split_of true l ≡ Some (k, n) → n ≡ 2 * length16 l
unfolding split16
split_of-utf16 l e = sym (within-fits l (width16 l) (2 * length16 l) 2 e).1
