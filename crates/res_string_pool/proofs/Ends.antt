-- The cases of specs/Pool.antt, one law for each, for the functions and for proofs/Laws.antt. No contract cites this file.
-- In order: which part runs out (`endOf-..`), and when none does; the pool from its header on (`poolFrom-..`); garbage
-- (`behindGarbage-..`); the whole (`poolOf-..`).
use Rattle.std.specs.Prelude.{Option, Some, None}
use Prim.Native.Nat.{ℕ, ◌+◌, ◌-◌, ◌*◌, ◌≤◌, ◌<◌}
use native.Mathlib.Omega.{arith}
use mathlib.Core.Path.{◌≡◌, refl, sym}
use mathlib.Core.List.{List}
use mathlib.Core.Bool.{Bool, true, false}
use borrow.Author.Tests.{ltb-true, ltb-false, lt-ltb, le-ltb, eq-eqb, ne_eqb}
use native.Mathlib.Nat.{le_of_eq}
use lib.ListN.{length, take, drop, length-drop}
use lib.Seq.{take_all}
use lib.Dec.{ltb}
use Rattle.field.specs.Le.{u32le}
use Rattle.common.specs.Header.{header_of, content_size}
use Rattle.common.specs.declared.ResChunkHeader.{ResChunkHeader}
use Rattle.res_string_pool.specs.Pool.{count_of, unread, numbered, end_of, pool_from, second_by, behind_garbage, pool_of}
use Rattle.res_string_pool.specs.declared.Garbage.{Garbage}
use Rattle.res_string_pool.specs.declared.Pool.{Pool}
use Rattle.res_string_pool.specs.declared.PoolEnd.{PoolEnd}
use Rattle.res_string_pool.specs.declared.PoolEnd.TheVariants.{Complete, GarbageShort, HeaderShort, OffsetsShort, StylesShort, DataShort}
use Rattle.res_string_pool.specs.declared.PoolRead.{PoolRead}

-- ---- which part runs out

module _ (n count styles size : ℕ) where
  pub end_of-offsets : n < 4 * count → end_of n count styles size ≡ OffsetsShort n
  unfolding end_of
  end_of-offsets p = rw (lt-ltb n (4 * count) p)

  pub end_of-styles : 4 * count ≤ n → n - 4 * count < 4 * styles → end_of n count styles size ≡ StylesShort (n - 4 * count)
  unfolding end_of
  end_of-styles p q = rw (le-ltb n (4 * count) p, lt-ltb (n - 4 * count) (4 * styles) q)

  pub end_of-data
      : 4 * count ≤ n
      → 4 * styles ≤ n - 4 * count
      → n - 4 * count - 4 * styles < size
      → end_of n count styles size ≡ DataShort (n - 4 * count - 4 * styles)
  unfolding end_of
  end_of-data p q r = rw (le-ltb n (4 * count) p, le-ltb (n - 4 * count) (4 * styles) q, lt-ltb (n - 4 * count - 4 * styles) size r)

  pub end_of-complete : 4 * count + 4 * styles + size ≤ n → end_of n count styles size ≡ Complete
  unfolding end_of
  end_of-complete p =
      rw (
        le-ltb n (4 * count) (omega arith),
        le-ltb (n - 4 * count) (4 * styles) (omega arith),
        le-ltb (n - 4 * count - 4 * styles) size (omega arith),
      )

  -- none runs out: all of them fit
  pub end_of-fits : end_of n count styles size ≡ Complete → 4 * count + 4 * styles + size ≤ n
  end_of-fits e = go (ltb n (4 * count)) refl
    where
      last : (p : 4 * count ≤ n) (q : 4 * styles ≤ n - 4 * count) (b : Bool) → ltb (n - 4 * count - 4 * styles) size ≡ b → 4 * count + 4 * styles + size ≤ n
      last p q true t =
          let s = end_of-data p q (ltb-true (n - 4 * count - 4 * styles) size t) in
          let z : ◌≡◌ {A = ℕ} 0 1 = cc in
          omega arith
      last p q false t = let r = ltb-false (n - 4 * count - 4 * styles) size t in omega arith

      next : (p : 4 * count ≤ n) (b : Bool) → ltb (n - 4 * count) (4 * styles) ≡ b → 4 * count + 4 * styles + size ≤ n
      next p true t =
          let s = end_of-styles p (ltb-true (n - 4 * count) (4 * styles) t) in
          let z : ◌≡◌ {A = ℕ} 0 1 = cc in
          omega arith
      next p false t = last p (ltb-false (n - 4 * count) (4 * styles) t) (ltb (n - 4 * count - 4 * styles) size) refl

      go : (b : Bool) → ltb n (4 * count) ≡ b → 4 * count + 4 * styles + size ≤ n
      go true t =
          let s = end_of-offsets (ltb-true n (4 * count) t) in
          let z : ◌≡◌ {A = ℕ} 0 1 = cc in
          omega arith
      go false t = next (ltb-false n (4 * count) t) (ltb (n - 4 * count) (4 * styles)) refl

-- ---- the pool from its header on

-- how the parts of the pool whose header h stands at the front of m end
abbrev pub end_from : ResChunkHeader → List ℕ → PoolEnd
end_from h m = end_of (length m - 28) (count_of (u32le m 20) (u32le m 12)) (u32le m 12) (h.size - u32le m 20)

module _ (g : Option Garbage) (at : ℕ) (h : ResChunkHeader) (m : List ℕ) where
  pub pool_from-short : length m < 28 → pool_from g at h m ≡ unread g (HeaderShort (length m - 8))
  unfolding pool_from
  pool_from-short p = rw (lt-ltb (length m) 28 p)

  pub pool_from-whole : 28 ≤ length m → pool_from g at h m ≡ record { garbage = g; pool = numbered at h m; end = end_from h m }
  unfolding pool_from numbered
  pool_from-whole p = rw (le-ltb (length m) 28 p)

  -- the numbers and the end, as they are read
  pub pool_from-by
      : (p : Pool) (e : PoolEnd) (count styles : ℕ)
      → 28 ≤ length m
      → p ≡ numbered at h m
      → count ≡ p.count
      → styles ≡ u32le m 12
      → e ≡ end_of (length m - 28) count styles p.size
      → ◌≡◌ {A = PoolRead} (record { garbage = g; pool = p; end = e }) (pool_from g at h m)
  unfolding numbered
  pool_from-by p e count styles long a b d f = rw (f, b, d, a) (sym (pool_from-whole long))

-- ---- the second header

module _ (g : Option Garbage) (at : ℕ) (m : List ℕ) where
  pub second_by-short : header_of m ≡ None → second_by g at m (header_of m) ≡ unread g (HeaderShort (length m))
  second_by-short w = rw w

  pub second_by-whole : {h : ResChunkHeader} → header_of m ≡ Some h → second_by g at m (header_of m) ≡ pool_from g at h m
  second_by-whole w = rw w

-- ---- garbage

-- what is told of a chunk with the header h that was skipped whole
abbrev pub garbage_in : ResChunkHeader → Option Garbage
garbage_in h = Some (record { kind = h.kind; skipped = content_size h })

module _ (h : ResChunkHeader) (l : List ℕ) where
  pub behind_garbage-short : length l - 8 < content_size h → behind_garbage h l ≡ unread None (GarbageShort (length l - 8))
  unfolding behind_garbage
  behind_garbage-short p = rw (lt-ltb (length l - 8) (content_size h) p)

  pub behind_garbage-skipped
      : content_size h ≤ length l - 8
      → behind_garbage h l ≡ second_by (garbage_in h) (8 + content_size h) (drop (8 + content_size h) l) (header_of (drop (8 + content_size h) l))
  unfolding behind_garbage
  behind_garbage-skipped p = rw (le-ltb (length l - 8) (content_size h) p)

  -- the number of bytes and the rest, as they are read
  pub behind_garbage-by
      : (n : ℕ)
      → n ≡ content_size h
      → n ≤ length l - 8
      → second_by
      (Some (record { kind = h.kind; skipped = n }))
      (8 + n)
      (take (length l - (8 + n)) (drop (8 + n) l))
      (header_of (take (length l - (8 + n)) (drop (8 + n) l)))
      ≡ behind_garbage h l
  behind_garbage-by n a p =
      let all : length (drop (8 + n) l) ≤ length l - (8 + n) = le_of_eq (length-drop (8 + n) l) in
      rw (take_all (length l - (8 + n)) (drop (8 + n) l) all, a) (sym (behind_garbage-skipped (omega arith)))

-- ---- the whole

module _ (l : List ℕ) where
  pub pool_of-short : header_of l ≡ None → pool_of l ≡ unread None (HeaderShort (length l))
  unfolding pool_of
  pool_of-short w = rw w

  pub pool_of-pool : {h : ResChunkHeader} → header_of l ≡ Some h → h.kind ≡ 1 → pool_of l ≡ pool_from None 0 h l
  unfolding pool_of
  pool_of-pool {h} w k = rw (w, eq-eqb h.kind 1 k)

  pub pool_of-garbage : {h : ResChunkHeader} → header_of l ≡ Some h → (h.kind ≡ 1 → ⊥) → pool_of l ≡ behind_garbage h l
  unfolding pool_of
  pool_of-garbage {h} w k = rw (w, ne_eqb h.kind 1 k)
