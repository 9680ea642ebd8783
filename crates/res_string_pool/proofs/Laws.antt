-- Laws of specs/Pool.antt: where the parts of a complete pool lie. No contract cites this file.
-- In order: the pool from its header on (`pool_from-parts`), behind garbage (`behind_garbage-parts`), the whole (`pool_of-parts`,
-- `pool_of-fits`, `pool_of-behind`). Not here: the cases (proofs/Ends.antt), the offsets (proofs/Offsets.antt), that a complete
-- pool looks at nothing behind itself (proofs/Append.antt).
use Rattle.std.specs.Prelude.{Option, None}
use Prim.Native.Nat.{ℕ, ◌+◌, ◌-◌, ◌*◌, ◌≤◌}
use native.Mathlib.Omega.{arith}
use mathlib.Core.Path.{◌≡◌, refl, sym, ap, ◌∙◌}
use mathlib.Core.List.{List}
use mathlib.Core.Bool.{Bool, true, false}
use borrow.Author.Tests.{ltb-true, ltb-false, eqb-true, eqb-false}
use lib.ListN.{length, drop, length-drop}
use lib.Dec.{ltb, eqb}
use Rattle.field.specs.Le.{u32le}
use Rattle.common.specs.Header.{content_size}
use Rattle.common.proofs.Laws.{header_here, header_of-whole, header_of-short}
use Rattle.common.specs.declared.ResChunkHeader.{ResChunkHeader}
use Rattle.res_string_pool.specs.Pool.{count_of, unread, numbered, pool_from, behind_garbage, pool_of}
use Rattle.res_string_pool.specs.declared.Garbage.{Garbage}
use Rattle.res_string_pool.specs.declared.Pool.{Pool}
use Rattle.res_string_pool.specs.declared.PoolEnd.{PoolEnd}
use Rattle.res_string_pool.specs.declared.PoolEnd.TheVariants.{Complete, GarbageShort, HeaderShort}
use Rattle.res_string_pool.specs.declared.PoolRead.{PoolRead}
use Rattle.res_string_pool.proofs.Ends.{end_of-fits, end_from, pool_from-short, pool_from-whole, second_by-short, second_by-whole}
use Rattle.res_string_pool.proofs.Ends.{garbage_in, behind_garbage-short, behind_garbage-skipped, pool_of-short, pool_of-pool, pool_of-garbage}

-- ---- the pool from its header on

-- the parts of a pool that begins at the place `at`, in a list of n bytes
pub record Parts (p : Pool) (at n : ℕ) : Type 0 where
  pub low : at + 28 ≤ p.offsets
  pub behind : p.offsets + 4 * p.count ≤ p.strings
  pub fits : p.strings + p.size ≤ n

-- no refusal is complete
unread-short : (g : Option Garbage) (e : PoolEnd) {r : PoolRead} → r ≡ unread g e → r.end ≡ e
unread-short g e q = ap (λ (r : PoolRead). r.end) q

module _ (g : Option Garbage) (at : ℕ) (h : ResChunkHeader) (m : List ℕ) (all : (pool_from g at h m).end ≡ Complete) where
  pub pool_from-long : 28 ≤ length m
  pool_from-long = go (ltb (length m) 28) refl
    where
      go : (b : Bool) → ltb (length m) 28 ≡ b → 28 ≤ length m
      go true t =
          let s = unread-short g (HeaderShort (length m - 8)) (pool_from-short g at h m (ltb-true (length m) 28 t)) in
          let z : ◌≡◌ {A = ℕ} 0 1 = cc in
          omega arith
      go false t = ltb-false (length m) 28 t

  pub pool_from-numbered : (pool_from g at h m).pool ≡ numbered at h m
  pool_from-numbered = ap (λ (r : PoolRead). r.pool) (pool_from-whole g at h m pool_from-long)

  pub pool_from-room : 28 + 4 * count_of (u32le m 20) (u32le m 12) + 4 * u32le m 12 + (h.size - u32le m 20) ≤ length m
  pool_from-room =
      let long = pool_from-long in
      let e : end_from h m ≡ Complete = sym (ap (λ (r : PoolRead). r.end) (pool_from-whole g at h m long)) ∙ all in
      let q = end_of-fits (length m - 28) (count_of (u32le m 20) (u32le m 12)) (u32le m 12) (h.size - u32le m 20) e in
      omega arith

  pub pool_from-parts : Parts (pool_from g at h m).pool at (at + length m)
  unfolding numbered
  pool_from-parts =
      let q = pool_from-room in
      rw pool_from-numbered (record { low = omega arith; behind = omega arith; fits = omega arith })

-- ---- behind garbage

module _ (h : ResChunkHeader) (l : List ℕ) (all : (behind_garbage h l).end ≡ Complete) where
  pub behind_garbage-room : content_size h ≤ length l - 8
  behind_garbage-room = go (ltb (length l - 8) (content_size h)) refl
    where
      go : (b : Bool) → ltb (length l - 8) (content_size h) ≡ b → content_size h ≤ length l - 8
      go true t =
          let s = unread-short None (GarbageShort (length l - 8)) (behind_garbage-short h l (ltb-true (length l - 8) (content_size h) t)) in
          let z : ◌≡◌ {A = ℕ} 0 1 = cc in
          omega arith
      go false t = ltb-false (length l - 8) (content_size h) t

  pub behind_garbage-second : 8 ≤ length (drop (8 + content_size h) l)
  behind_garbage-second = go (ltb (length m) 8) refl
    where
      m : List ℕ
      m = drop (8 + content_size h) l

      go : (b : Bool) → ltb (length m) 8 ≡ b → 8 ≤ length m
      go true t =
          let w = second_by-short (garbage_in h) (8 + content_size h) m (header_of-short m (ltb-true (length m) 8 t)) in
          let s = unread-short (garbage_in h) (HeaderShort (length m)) (behind_garbage-skipped h l behind_garbage-room ∙ w) in
          let z : ◌≡◌ {A = ℕ} 0 1 = cc in
          omega arith
      go false t = ltb-false (length m) 8 t

-- garbage was skipped, and a second header stands behind it
pub behind_garbage-from
    : (h : ResChunkHeader) (l : List ℕ)
    → content_size h ≤ length l - 8
    → 8 ≤ length (drop (8 + content_size h) l)
    → behind_garbage h l
    ≡ pool_from (garbage_in h) (8 + content_size h) (header_here (drop (8 + content_size h) l)) (drop (8 + content_size h) l)
behind_garbage-from h l p q =
    let m = drop (8 + content_size h) l in
    behind_garbage-skipped h l p ∙ second_by-whole (garbage_in h) (8 + content_size h) m (header_of-whole m q)

pub behind_garbage-parts : (h : ResChunkHeader) (l : List ℕ) → (behind_garbage h l).end ≡ Complete → Parts (behind_garbage h l).pool (8 + content_size h) (length l)
behind_garbage-parts h l all =
    let k = 8 + content_size h in
    let m = drop k l in
    let p = behind_garbage-room h l all in
    let q = behind_garbage-second h l all in
    let e = behind_garbage-from h l p q in
    let all' : (pool_from (garbage_in h) k (header_here m) m).end ≡ Complete = rw (← e) all in
    let r = pool_from-parts (garbage_in h) k (header_here m) m all' in
    let same : k + length m ≡ length l = rw length-drop (omega (arith, length-drop k l)) in
    rw (e, ← same) r

-- ---- the whole

pub pool_of-long : (l : List ℕ) → (pool_of l).end ≡ Complete → 8 ≤ length l
pool_of-long l all = go (ltb (length l) 8) refl
  where
    go : (b : Bool) → ltb (length l) 8 ≡ b → 8 ≤ length l
    go true t =
        let s = unread-short None (HeaderShort (length l)) (pool_of-short l (header_of-short l (ltb-true (length l) 8 t))) in
        let z : ◌≡◌ {A = ℕ} 0 1 = cc in
        omega arith
    go false t = ltb-false (length l) 8 t

pub pool_of-parts : (l : List ℕ) → (pool_of l).end ≡ Complete → Parts (pool_of l).pool 0 (length l)
pool_of-parts l all = go (eqb (header_here l).kind 1) refl
  where
    go : (b : Bool) → eqb (header_here l).kind 1 ≡ b → Parts (pool_of l).pool 0 (length l)
    go true t =
        let e = pool_of-pool l (header_of-whole l (pool_of-long l all)) (eqb-true (header_here l).kind 1 t) in
        let r = pool_from-parts None 0 (header_here l) l (rw (← e) all) in
        rw e (record { low = r.low; behind = r.behind; fits = omega arith })
    go false t =
        let e = pool_of-garbage l (header_of-whole l (pool_of-long l all)) (eqb-false (header_here l).kind 1 t) in
        let r = behind_garbage-parts (header_here l) l (rw (← e) all) in
        rw e (record { low = omega arith; behind = r.behind; fits = r.fits })

pub pool_of-fits : (l : List ℕ) → (pool_of l).end ≡ Complete → (pool_of l).pool.strings + (pool_of l).pool.size ≤ length l
pool_of-fits l all = (pool_of-parts l all).fits

pub pool_of-behind : (l : List ℕ) → (pool_of l).end ≡ Complete → (pool_of l).pool.offsets + 4 * (pool_of l).pool.count ≤ (pool_of l).pool.strings
pool_of-behind l all = (pool_of-parts l all).behind
