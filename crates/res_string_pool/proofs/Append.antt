-- Laws of specs/Pool.antt: a complete pool looks at nothing behind itself. No contract cites this file.
-- In order: the numbers, the pool from its header on, behind garbage, the whole (`pool_of-append`).
use Rattle.std.specs.Prelude.{Option, Some, None}
use Prim.Native.Nat.{ℕ, ◌+◌, ◌-◌, ◌*◌, ◌≤◌}
use native.Mathlib.Omega.{arith}
use mathlib.Core.Path.{◌≡◌, refl, sym, ◌∙◌}
use mathlib.Core.List.{List, ◌++◌}
use mathlib.Core.Bool.{Bool, true, false}
use borrow.Author.Tests.{eqb-true, eqb-false}
use lib.ListN.{length, drop, length-append, length-drop}
use lib.Seq.{drop-append-le}
use lib.Dec.{eqb}
use Rattle.field.specs.Le.{u32le}
use Rattle.field.proofs.Laws.{u16le-append, u32le-append}
use Rattle.common.specs.Header.{header_of, content_size}
use Rattle.common.proofs.Laws.{header_here, header_of-whole, header_of-append}
use Rattle.common.specs.declared.ResChunkHeader.{ResChunkHeader}
use Rattle.res_string_pool.specs.Pool.{count_of, numbered, pool_from, behind_garbage, pool_of}
use Rattle.res_string_pool.specs.declared.Garbage.{Garbage}
use Rattle.res_string_pool.specs.declared.PoolEnd.TheVariants.{Complete}
use Rattle.res_string_pool.proofs.Ends.{end_of-complete, end_from, pool_from-whole, garbage_in, pool_of-pool, pool_of-garbage}
use Rattle.res_string_pool.proofs.Laws.{pool_from-numbered, behind_garbage-from, behind_garbage-parts, pool_of-parts}

-- ---- the pool from its header on

pub numbered-append : (at : ℕ) (h : ResChunkHeader) (c m : List ℕ) → 28 ≤ length c → numbered at h (c ++ m) ≡ numbered at h c
unfolding numbered
numbered-append at h c m p =
    rw (
      u32le-append c m 8 (omega arith),
      u32le-append c m 12 (omega arith),
      u32le-append c m 16 (omega arith),
      u32le-append c m 20 (omega arith),
    )

-- all of the pool lies in c
abbrev Room : ResChunkHeader → List ℕ → Type 0
Room h c = 28 + 4 * count_of (u32le c 20) (u32le c 12) + 4 * u32le c 12 + (h.size - u32le c 20) ≤ length c

pool_from-room-append
    : (g : Option Garbage) (at : ℕ) (h : ResChunkHeader) (c m : List ℕ)
    → Room h c
    → pool_from g at h (c ++ m) ≡ record { garbage = g; pool = numbered at h c; end = Complete }
pool_from-room-append g at h c m room =
    let long : 28 ≤ length (c ++ m) = rw length-append (omega arith) in
    let e : end_from h (c ++ m) ≡ Complete =
    rw (u32le-append c m 12 (omega arith), u32le-append c m 20 (omega arith))
    (end_of-complete
    (length (c ++ m) - 28)
    (count_of (u32le c 20) (u32le c 12))
    (u32le c 12)
    (h.size - u32le c 20)
    (rw length-append (omega arith))) in
    pool_from-whole g at h (c ++ m) long ∙ rw (e, numbered-append at h c m (omega arith))

-- where the pool ends in c, all of it lies in c
pool_from-room-of
    : (g : Option Garbage) (at : ℕ) (h : ResChunkHeader) (c m : List ℕ)
    → (pool_from g at h (c ++ m)).end ≡ Complete
    → (pool_from g at h (c ++ m)).pool.strings + (pool_from g at h (c ++ m)).pool.size ≤ at + length c
    → Room h c
unfolding numbered
pool_from-room-of g at h c m all p =
    let n = pool_from-numbered g at h (c ++ m) all in
    let q : at + 28 + 4 * count_of (u32le (c ++ m) 20) (u32le (c ++ m) 12) + 4 * u32le (c ++ m) 12 + (h.size - u32le (c ++ m) 20) ≤ at + length c =
    rw n at p in
    let q' = rw (u32le-append c m 12 (omega arith), u32le-append c m 20 (omega arith)) at q in
    omega arith

pool_from-append
    : (g : Option Garbage) (at : ℕ) (h : ResChunkHeader) (c m m' : List ℕ)
    → (pool_from g at h (c ++ m)).end ≡ Complete
    → (pool_from g at h (c ++ m)).pool.strings + (pool_from g at h (c ++ m)).pool.size ≤ at + length c
    → pool_from g at h (c ++ m') ≡ pool_from g at h (c ++ m)
pool_from-append g at h c m m' all p =
    let room = pool_from-room-of g at h c m all p in
    pool_from-room-append g at h c m' room ∙ sym (pool_from-room-append g at h c m room)

-- ---- behind garbage

pub header_here-append : (c m : List ℕ) → 8 ≤ length c → header_here (c ++ m) ≡ header_here c
-- ---- behind garbage

header_here-append c m p = rw (u16le-append c m 0 (omega arith), u16le-append c m 2 (omega arith), u32le-append c m 4 (omega arith))

-- garbage and the second header lie in c
behind_garbage-in
    : (h : ResChunkHeader) (c m : List ℕ)
    → 8 + content_size h + 8 ≤ length c
    → behind_garbage h (c ++ m)
    ≡ pool_from (garbage_in h) (8 + content_size h) (header_here (drop (8 + content_size h) c)) (drop (8 + content_size h) c ++ m)
behind_garbage-in h c m p =
    let k = 8 + content_size h in
    let split : drop k (c ++ m) ≡ drop k c ++ m = drop-append-le k c m (omega arith) in
    let long : 8 ≤ length (drop k c) = rw length-drop (omega arith) in
    let more : 8 ≤ length (drop k (c ++ m)) = rw (length-drop, length-append) (omega arith) in
    let room : content_size h ≤ length (c ++ m) - 8 = rw length-append (omega arith) in
    behind_garbage-from h (c ++ m) room more ∙ rw (split, header_here-append (drop k c) m long)

behind_garbage-append
    : (h : ResChunkHeader) (c m m' : List ℕ)
    → (behind_garbage h (c ++ m)).end ≡ Complete
    → (behind_garbage h (c ++ m)).pool.strings + (behind_garbage h (c ++ m)).pool.size ≤ length c
    → behind_garbage h (c ++ m') ≡ behind_garbage h (c ++ m)
behind_garbage-append h c m m' all p =
    let k = 8 + content_size h in
    let parts = behind_garbage-parts h (c ++ m) all in
    let room : 8 + content_size h + 8 ≤ length c = omega arith in
    let e = behind_garbage-in h c m room in
    let all' = rw e at all in
    let p' : (pool_from (garbage_in h) k (header_here (drop k c)) (drop k c ++ m)).pool.strings
    + (pool_from (garbage_in h) k (header_here (drop k c)) (drop k c ++ m)).pool.size
    ≤ k + length (drop k c) = rw (length-drop, ← e) (omega arith) in
    behind_garbage-in h c m' room ∙ (pool_from-append (garbage_in h) k (header_here (drop k c)) (drop k c) m m' all' p' ∙ sym e)

-- ---- the whole

pub pool_of-append
    : (c m m' : List ℕ)
    → (pool_of (c ++ m)).end ≡ Complete
    → (pool_of (c ++ m)).pool.strings + (pool_of (c ++ m)).pool.size ≤ length c
    → pool_of (c ++ m') ≡ pool_of (c ++ m)
pool_of-append c m m' all p = go (eqb (header_here c).kind 1) refl
  where
    long : 8 ≤ length c
    long = let parts = pool_of-parts (c ++ m) all in omega arith

    whole : (x : List ℕ) → header_of (c ++ x) ≡ Some (header_here c)
    whole x = header_of-append c x (header_of-whole c long)

    go : (b : Bool) → eqb (header_here c).kind 1 ≡ b → pool_of (c ++ m') ≡ pool_of (c ++ m)
    go true t =
        let k : (header_here c).kind ≡ 1 = eqb-true (header_here c).kind 1 t in
        let e = pool_of-pool (c ++ m) (whole m) k in
        let all' = rw e at all in
        let p' = rw e at p in
        pool_of-pool (c ++ m') (whole m') k ∙ (pool_from-append None 0 (header_here c) c m m' all' (omega arith) ∙ sym e)
    go false t =
        let k : (header_here c).kind ≡ 1 → ⊥ = eqb-false (header_here c).kind 1 t in
        let e = pool_of-garbage (c ++ m) (whole m) k in
        let all' = rw e at all in
        let p' = rw e at p in
        pool_of-garbage (c ++ m') (whole m') k ∙ (behind_garbage-append (header_here c) c m m' all' p' ∙ sym e)
