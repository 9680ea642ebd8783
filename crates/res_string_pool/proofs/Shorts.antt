-- Laws of specs/Pool.antt: of a pool that is short, the bytes from the short part on can go, and it is short there with none left. No contract cites this file.
-- In order: how many bytes are left and what is short with none (`left_of`, `none_left`), which part runs out (`end_of-cut`), the pool from its header on
-- (`pool_from-cut`), behind garbage (`behind_garbage-cut`), the whole (`pool_of-left`, `pool_of-cut`).
use Rattle.std.specs.Prelude.{Option, Some, None}
use Prim.Native.Nat.{ℕ, ◌+◌, ◌-◌, ◌*◌, ◌≤◌}
use native.Mathlib.Omega.{arith}
use mathlib.Core.Path.{◌≡◌, refl, sym, ap, ◌∙◌}
use mathlib.Core.List.{List, [], ◌++◌}
use mathlib.Core.Bool.{Bool, true, false}
use borrow.Author.Tests.{ltb-true, ltb-false, eqb-true, eqb-false}
use lib.ListN.{length, drop, length-append, length-drop, drop_of_length-le}
use lib.Seq.{drop-append-le}
use lib.Dec.{ltb, eqb}
use Rattle.field.specs.Le.{u32le}
use Rattle.field.proofs.Laws.{u32le-append}
use Rattle.common.specs.Header.{header_of, content_size}
use Rattle.common.proofs.Laws.{header_here, header_of-whole, header_of-long, header_of-short}
use Rattle.common.specs.declared.ResChunkHeader.{ResChunkHeader}
use Rattle.res_string_pool.specs.Pool.{count_of, unread, end_of, pool_from, behind_garbage, pool_of}
use Rattle.res_string_pool.specs.declared.Garbage.{Garbage}
use Rattle.res_string_pool.specs.declared.PoolEnd.{PoolEnd}
use Rattle.res_string_pool.specs.declared.PoolEnd.TheVariants.{Complete, GarbageShort, HeaderShort, OffsetsShort, StylesShort, DataShort}
use Rattle.res_string_pool.specs.declared.PoolRead.{PoolRead}
use Rattle.res_string_pool.proofs.Ends.{end_of-offsets, end_of-styles, end_of-data, end_of-complete, end_from, pool_from-short, pool_from-whole}
use Rattle.res_string_pool.proofs.Ends.{garbage_in, behind_garbage-short, behind_garbage-skipped, pool_of-short, pool_of-pool, pool_of-garbage}
use Rattle.res_string_pool.proofs.Append.{numbered-append, header_here-append}

header_of-here : (l : List ℕ) {h : ResChunkHeader} → header_of l ≡ Some h → h ≡ header_here l
header_of-here l {h} w = let e : Some h ≡ Some (header_here l) = sym w ∙ header_of-whole l (header_of-long l w) in cc

-- ---- how many bytes are left

abbrev pub left_of : PoolEnd → ℕ
left_of Complete = 0
left_of (GarbageShort k) = k
left_of (HeaderShort k) = k
left_of (OffsetsShort k) = k
left_of (StylesShort k) = k
left_of (DataShort k) = k

-- the same part, with none left
abbrev pub emptied : PoolEnd → PoolEnd
emptied Complete = Complete
emptied (GarbageShort k) = GarbageShort 0
emptied (HeaderShort k) = HeaderShort 0
emptied (OffsetsShort k) = OffsetsShort 0
emptied (StylesShort k) = StylesShort 0
emptied (DataShort k) = DataShort 0

abbrev pub none_left : PoolRead → PoolRead
none_left r = record { garbage = r.garbage; pool = r.pool; end = emptied r.end }

abbrev pub IsShort : PoolEnd → Type 0
IsShort Complete = ⊥
IsShort (GarbageShort k) = Unit {0}
IsShort (HeaderShort k) = Unit {0}
IsShort (OffsetsShort k) = Unit {0}
IsShort (StylesShort k) = Unit {0}
IsShort (DataShort k) = Unit {0}

-- ---- which part runs out

-- with k left where the short part begins, n - k bytes end there
pub record CutAt (n count styles size : ℕ) : Type 0 where
  pub inside : left_of (end_of n count styles size) ≤ n
  pub same : end_of (n - left_of (end_of n count styles size)) count styles size ≡ emptied (end_of n count styles size)

pub end_of-cut : (n count styles size : ℕ) → IsShort (end_of n count styles size) → CutAt n count styles size
end_of-cut n count styles size short = go (ltb n (4 * count)) refl
  where
    last
        : 4 * count ≤ n → 4 * styles ≤ n - 4 * count
        → (b : Bool) → ltb (n - 4 * count - 4 * styles) size ≡ b
        → CutAt n count styles size
    last p q true t =
        let lt = ltb-true (n - 4 * count - 4 * styles) size t in
        let e = end_of-data n count styles size p q lt in
        let k : n - (n - 4 * count - 4 * styles) ≡ 4 * count + 4 * styles = omega arith in
        let z : 4 * count + 4 * styles - 4 * count - 4 * styles ≡ 0 = omega arith in
        let d = end_of-data (4 * count + 4 * styles) count styles size (omega arith) (omega arith) (omega arith) in
        record { inside = rw e (omega arith); same = rw (e, k, d, z) }
    last p q false t =
        let le = ltb-false (n - 4 * count - 4 * styles) size t in
        absurd (rw (end_of-complete n count styles size (omega arith)) at short)

    next : 4 * count ≤ n → (b : Bool) → ltb (n - 4 * count) (4 * styles) ≡ b → CutAt n count styles size
    next p true t =
        let lt = ltb-true (n - 4 * count) (4 * styles) t in
        let e = end_of-styles n count styles size p lt in
        let k : n - (n - 4 * count) ≡ 4 * count = omega arith in
        let z : 4 * count - 4 * count ≡ 0 = omega arith in
        let d = end_of-styles (4 * count) count styles size (omega arith) (omega arith) in
        record { inside = rw e (omega arith); same = rw (e, k, d, z) }
    next p false t = last p (ltb-false (n - 4 * count) (4 * styles) t) (ltb (n - 4 * count - 4 * styles) size) refl

    go : (b : Bool) → ltb n (4 * count) ≡ b → CutAt n count styles size
    go true t =
        let lt = ltb-true n (4 * count) t in
        let e = end_of-offsets n count styles size lt in
        let k : n - n ≡ 0 = omega arith in
        let d = end_of-offsets 0 count styles size (omega arith) in
        record { inside = rw e (omega arith); same = rw (e, k, d) }
    go false t = next (ltb-false n (4 * count) t) (ltb (n - 4 * count) (4 * styles)) refl

-- ---- the pool from its header on, c being what stands before the short part

module _ (g : Option Garbage) (at : ℕ) (h : ResChunkHeader) where
  pub pool_from-left : (m : List ℕ) → 8 ≤ length m → IsShort (pool_from g at h m).end → left_of (pool_from g at h m).end ≤ length m - 8
  pool_from-left m p short = go (ltb (length m) 28) refl
    where
      go : (b : Bool) → ltb (length m) 28 ≡ b → left_of (pool_from g at h m).end ≤ length m - 8
      go true t = rw (pool_from-short g at h m (ltb-true (length m) 28 t)) (omega arith)
      go false t =
          let long = ltb-false (length m) 28 t in
          let e = pool_from-whole g at h m long in
          let short' = rw e at short in
          let q = (end_of-cut (length m - 28) (count_of (u32le m 20) (u32le m 12)) (u32le m 12) (h.size - u32le m 20) short').inside in
          rw e (omega (arith, q, long))

  pub pool_from-cut
      : (c m : List ℕ)
      → 8 ≤ length c
      → IsShort (pool_from g at h (c ++ m)).end
      → left_of (pool_from g at h (c ++ m)).end ≡ length m
      → pool_from g at h c ≡ none_left (pool_from g at h (c ++ m))
  pool_from-cut c m p short left = go (ltb (length (c ++ m)) 28) refl
    where
      sum : length (c ++ m) ≡ length c + length m
      sum = length-append c m

      go : (b : Bool) → ltb (length (c ++ m)) 28 ≡ b → pool_from g at h c ≡ none_left (pool_from g at h (c ++ m))
      go true t =
          let lt = ltb-true (length (c ++ m)) 28 t in
          let e = pool_from-short g at h (c ++ m) lt in
          let left' : length (c ++ m) - 8 ≡ length m = rw e at left in
          let k : length c ≡ 8 = omega (arith, sum, left', p) in
          let z : length c - 8 ≡ 0 = omega (arith, k) in
          rw (e, pool_from-short g at h c (omega (arith, k)), z)
      go false t =
          let long = ltb-false (length (c ++ m)) 28 t in
          let e = pool_from-whole g at h (c ++ m) long in
          let short' = rw e at short in
          let left' = rw e at left in
          let q =
          end_of-cut (length (c ++ m) - 28) (count_of (u32le (c ++ m) 20) (u32le (c ++ m) 12)) (u32le (c ++ m) 12) (h.size - u32le (c ++ m) 20) short' in
          let much : 28 ≤ length c = omega (arith, sum, long, left', q.inside) in
          let k : length (c ++ m) - 28 - left_of (end_from h (c ++ m)) ≡ length c - 28 = omega (arith, sum, left') in
          let same =
          ap (λ (x : ℕ). end_of x (count_of (u32le (c ++ m) 20) (u32le (c ++ m) 12)) (u32le (c ++ m) 12) (h.size - u32le (c ++ m) 20)) (sym k)
          ∙ q.same in
          rw (e, pool_from-whole g at h c much, ← same, numbered-append at h c m much, u32le-append c m 12 (omega arith), u32le-append c m 20 (omega arith))

-- ---- behind garbage

module _ (h : ResChunkHeader) where
  -- what stands behind the garbage is short
  module _ (l : List ℕ) (skipped : content_size h ≤ length l - 8) where
    abbrev at : ℕ
    at = 8 + content_size h

    behind-short : header_of (drop at l) ≡ None → behind_garbage h l ≡ unread (garbage_in h) (HeaderShort (length (drop at l)))
    behind-short w = behind_garbage-skipped h l skipped ∙ rw w

    behind-whole : {x : ResChunkHeader} → header_of (drop at l) ≡ Some x → behind_garbage h l ≡ pool_from (garbage_in h) at x (drop at l)
    behind-whole w = behind_garbage-skipped h l skipped ∙ rw w

  pub behind_garbage-left : (l : List ℕ) → 8 ≤ length l → IsShort (behind_garbage h l).end → left_of (behind_garbage h l).end ≤ length l - 8
  behind_garbage-left l p short = go (ltb (length l - 8) (content_size h)) refl
    where
      len : length (drop (8 + content_size h) l) ≡ length l - (8 + content_size h)
      len = length-drop (8 + content_size h) l

      second : content_size h ≤ length l - 8 → (r : Option ResChunkHeader) → header_of (drop (8 + content_size h) l) ≡ r → left_of (behind_garbage h l).end ≤ length l - 8
      second s None w = rw (behind-short l s w) (omega (arith, len))
      second s (Some x) w =
          let e = behind-whole l s w in
          let short' = rw e at short in
          let long = header_of-long (drop (8 + content_size h) l) w in
          rw e (omega (arith, len, pool_from-left (garbage_in h) (8 + content_size h) x (drop (8 + content_size h) l) long short'))

      go : (b : Bool) → ltb (length l - 8) (content_size h) ≡ b → left_of (behind_garbage h l).end ≤ length l - 8
      go true t = rw (behind_garbage-short h l (ltb-true (length l - 8) (content_size h) t)) (omega arith)
      go false t = second (ltb-false (length l - 8) (content_size h) t) (header_of (drop (8 + content_size h) l)) refl

  pub behind_garbage-cut
      : (c m : List ℕ)
      → 8 ≤ length c
      → IsShort (behind_garbage h (c ++ m)).end
      → left_of (behind_garbage h (c ++ m)).end ≡ length m
      → behind_garbage h c ≡ none_left (behind_garbage h (c ++ m))
  behind_garbage-cut c m p short left = go (ltb (length (c ++ m) - 8) (content_size h)) refl
    where
      k : ℕ
      k = 8 + content_size h

      sum : length (c ++ m) ≡ length c + length m
      sum = length-append c m

      len : length (drop k (c ++ m)) ≡ length (c ++ m) - k
      len = length-drop k (c ++ m)

      second
          : content_size h ≤ length (c ++ m) - 8
          → (r : Option ResChunkHeader) → header_of (drop k (c ++ m)) ≡ r
          → behind_garbage h c ≡ none_left (behind_garbage h (c ++ m))
      second s None w =
          let e = behind-short (c ++ m) s w in
          let left' : length (drop k (c ++ m)) ≡ length m = rw e at left in
          let is : length c ≡ k = omega (arith, sum, len, left', s, p) in
          let nil : drop k c ≡ [] = drop_of_length-le c {i = k} (omega (arith, is)) in
          rw (e, behind-short c (omega (arith, is)) (header_of-short (drop k c) (rw nil (omega arith))), nil)
      second s (Some x) w =
          let e = behind-whole (c ++ m) s w in
          let short' = rw e at short in
          let left' = rw e at left in
          let long : 8 ≤ length (drop k (c ++ m)) = header_of-long (drop k (c ++ m)) w in
          let few = pool_from-left (garbage_in h) k x (drop k (c ++ m)) long short' in
          let much : k + 8 ≤ length c = omega (arith, sum, len, left', few, long) in
          let split : drop k (c ++ m) ≡ drop k c ++ m = drop-append-le k c m (omega (arith, much)) in
          let size : 8 ≤ length (drop k c) = rw length-drop (omega (arith, much)) in
          let here : x ≡ header_here (drop k c) =
          header_of-here (drop k (c ++ m)) w ∙ ap header_here split ∙ header_here-append (drop k c) m size in
          let w' : header_of (drop k c) ≡ Some x = header_of-whole (drop k c) size ∙ ap Some (sym here) in
          let short'' = rw split at short' in
          let left'' = rw split at left' in
          rw (e, behind-whole c (omega (arith, much)) w', split) (pool_from-cut (garbage_in h) k x (drop k c) m size short'' left'')

      go : (b : Bool) → ltb (length (c ++ m) - 8) (content_size h) ≡ b → behind_garbage h c ≡ none_left (behind_garbage h (c ++ m))
      go true t =
          let lt = ltb-true (length (c ++ m) - 8) (content_size h) t in
          let e = behind_garbage-short h (c ++ m) lt in
          let left' : length (c ++ m) - 8 ≡ length m = rw e at left in
          let is : length c ≡ 8 = omega (arith, sum, left', p) in
          let z : length c - 8 ≡ 0 = omega (arith, is) in
          rw (e, behind_garbage-short h c (omega (arith, is, lt)), z)
      go false t = second (ltb-false (length (c ++ m) - 8) (content_size h) t) (header_of (drop k (c ++ m))) refl

-- ---- the whole

pub pool_of-left : (l : List ℕ) → IsShort (pool_of l).end → left_of (pool_of l).end ≤ length l
pool_of-left l short = go (header_of l) refl
  where
    kind : (h : ResChunkHeader) → header_of l ≡ Some h → (b : Bool) → eqb h.kind 1 ≡ b → left_of (pool_of l).end ≤ length l
    kind h w true t =
        let e = pool_of-pool l w (eqb-true h.kind 1 t) in
        let short' = rw e at short in
        rw e (omega (arith, pool_from-left None 0 h l (header_of-long l w) short'))
    kind h w false t =
        let e = pool_of-garbage l w (eqb-false h.kind 1 t) in
        let short' = rw e at short in
        rw e (omega (arith, behind_garbage-left h l (header_of-long l w) short'))

    go : (r : Option ResChunkHeader) → header_of l ≡ r → left_of (pool_of l).end ≤ length l
    go None w = rw (pool_of-short l w) (omega arith)
    go (Some h) w = kind h w (eqb h.kind 1) refl

-- a short pool, and c what stands before the short part: c alone says the same, with none left
pub pool_of-cut
    : (c m : List ℕ)
    → IsShort (pool_of (c ++ m)).end
    → left_of (pool_of (c ++ m)).end ≡ length m
    → pool_of c ≡ none_left (pool_of (c ++ m))
pool_of-cut c m short left = go (header_of (c ++ m)) refl
  where
    sum : length (c ++ m) ≡ length c + length m
    sum = length-append c m

    -- the header stands in c
    same : (h : ResChunkHeader) → header_of (c ++ m) ≡ Some h → 8 ≤ length c → header_of c ≡ Some h
    same h w p = header_of-whole c p ∙ ap Some (sym (header_of-here (c ++ m) w ∙ header_here-append c m p))

    kind
        : (h : ResChunkHeader) → header_of (c ++ m) ≡ Some h
        → (b : Bool) → eqb h.kind 1 ≡ b
        → pool_of c ≡ none_left (pool_of (c ++ m))
    kind h w true t =
        let one = eqb-true h.kind 1 t in
        let e = pool_of-pool (c ++ m) w one in
        let short' = rw e at short in
        let left' = rw e at left in
        let long = header_of-long (c ++ m) w in
        let p : 8 ≤ length c = omega (arith, sum, long, left', pool_from-left None 0 h (c ++ m) long short') in
        rw (e, pool_of-pool c (same h w p) one) (pool_from-cut None 0 h c m p short' left')
    kind h w false t =
        let other = eqb-false h.kind 1 t in
        let e = pool_of-garbage (c ++ m) w other in
        let short' = rw e at short in
        let left' = rw e at left in
        let long = header_of-long (c ++ m) w in
        let p : 8 ≤ length c = omega (arith, sum, long, left', behind_garbage-left h (c ++ m) long short') in
        rw (e, pool_of-garbage c (same h w p) other) (behind_garbage-cut h c m p short' left')

    empty : (l : List ℕ) → length l ≡ 0 → pool_of l ≡ unread None (HeaderShort 0)
    empty l e = pool_of-short l (header_of-short l (omega (arith, e))) ∙ ap (λ (n : ℕ). unread None (HeaderShort n)) e

    go : (r : Option ResChunkHeader) → header_of (c ++ m) ≡ r → pool_of c ≡ none_left (pool_of (c ++ m))
    go None w =
        let e = pool_of-short (c ++ m) w in
        let left' : length (c ++ m) ≡ length m = rw e at left in
        rw e (empty c (omega (arith, sum, left')))
    go (Some h) w = kind h w (eqb h.kind 1) refl
