-- Laws of specs/Head.antt, for the crates above. No contract cites this file.
-- In order: the file's header by its header size alone (`opened_of-same`); where the pool is there, the head's places lie in its
-- tables (`opened_of-fits`); a whole head looks at nothing behind its map (`opened_of-append`, `tables_in-append`, `body_in-append`).
use Rattle.std.specs.Prelude.{Result, Ok, Err, Option}
use Prim.Native.Nat.{ℕ, ◌+◌, ◌-◌, ◌*◌, ◌≤◌}
use native.Mathlib.Omega.{arith}
use native.Mathlib.Nat.{le_trans}
use mathlib.Core.Path.{◌≡◌, refl, sym, ap, ◌∙◌}
use mathlib.Core.List.{List, ◌++◌}
use mathlib.Core.Bool.{Bool, true, false}
use borrow.Author.Tests.{ltb-true, ltb-false, eqb-true, eqb-false}
use lib.ListN.{length, take, drop, length-drop, length-append}
use lib.Seq.{take-append-le, drop-append-le, length-take-le}
use lib.Dec.{ltb, eqb}
use Rattle.records.specs.Limits.{file_limit}
use Rattle.field.specs.Le.{u16le}
use Rattle.field.proofs.Laws.{u16le-append}
use Rattle.res_string_pool.specs.Pool.{pool_of}
use Rattle.res_string_pool.specs.declared.Garbage.{Garbage}
use Rattle.res_string_pool.specs.declared.Pool.{Pool}
use Rattle.res_string_pool.specs.declared.PoolEnd.{PoolEnd}
use Rattle.res_string_pool.specs.declared.PoolEnd.TheVariants.{Complete, GarbageShort, HeaderShort, OffsetsShort, StylesShort, DataShort}
use Rattle.res_string_pool.proofs.Laws.{Parts, pool_of-parts}
use Rattle.res_string_pool.proofs.Append.{pool_of-append}
use Rattle.resource_map.specs.Map.{map_of}
use Rattle.resource_map.proofs.Laws.{map_of-fits, map_of-append}
use Rattle.text.specs.declared.Head.{Head}
use Rattle.text.specs.Inner.Found.{Fits}
use Rattle.head.specs.Head.{head_by, mapped_by, pooled_by, tables_of, opened_of, head_len, tables_in, body_in, PoolThere}
use Rattle.head.specs.declared.HeadEnd.TheVariants.{Whole}
use Rattle.head.specs.declared.Opened.{Opened}
use Rattle.head.proofs.Cases.{opened_of-small, opened_of-size, opened_of-tables}
use Rattle.resource_map.specs.declared.MapShort.{MapShort}
use Rattle.resource_map.specs.declared.MapShort.TheVariants as map_short

-- ---- of the file's header its size alone is looked at, not the type and not the total size

pub opened_of-same
    : (f f' : List ℕ)
    → length f ≡ length f'
    → u16le f 2 ≡ u16le f' 2
    → drop 8 f ≡ drop 8 f'
    → opened_of f ≡ opened_of f'
unfolding opened_of
opened_of-same f f' l h d = rw (l, h, d)

-- ---- the head's places lie in its tables

fits_by
    : (t : List ℕ) (p : Pool) (map ids : ℕ)
    → length t ≤ file_limit
    → Parts p 0 (length t)
    → p.strings + p.size ≤ map
    → map + 4 * ids ≤ length t
    → Fits (take (map + 4 * ids) t) (head_by p map ids)
fits_by t p map ids short parts behind room =
    let l : length (take (map + 4 * ids) t) ≡ map + 4 * ids = length-take-le (map + 4 * ids) t room in
    record { short = omega arith; offsets = omega arith; strings = omega arith; ids = omega arith }

-- the head fits the first bytes of t that it takes
abbrev FitsIn : List ℕ → Opened → Type 0
FitsIn t o = PoolThere o.end → Fits (take (head_len o.head) t) o.head

mapped_by-fits
    : (t : List ℕ) (g : Option Garbage) (p : Pool)
    → length t ≤ file_limit
    → Parts p 0 (length t)
    → (m : Result ℕ MapShort)
    → map_of (drop (p.strings + p.size) t) ≡ m
    → FitsIn t (mapped_by t g p m)
mapped_by-fits t g p short parts (Ok n) e there =
    let at = p.strings + p.size in
    let q = map_of-fits (drop at t) e in
    let l : length (drop at t) ≡ length t - at = length-drop at t in
    fits_by t p (at + 8) n short parts (omega arith) (omega arith)
mapped_by-fits t g p short parts (Err (map_short.Header k)) e there = fits_by t p (p.strings + p.size) 0 short parts (omega arith) (omega arith)
mapped_by-fits t g p short parts (Err (map_short.Ids k)) e there = fits_by t p (p.strings + p.size) 0 short parts (omega arith) (omega arith)

tables_of-fits : (t : List ℕ) → length t ≤ file_limit → FitsIn t (tables_of t)
unfolding tables_of
tables_of-fits t short = go (pool_of t).end refl
  where
    g : Option Garbage
    g = (pool_of t).garbage

    p : Pool
    p = (pool_of t).pool

    go : (e : PoolEnd) → (pool_of t).end ≡ e → FitsIn t (pooled_by t g p e)
    go Complete e there = mapped_by-fits t g p short (pool_of-parts t e) (map_of (drop (p.strings + p.size) t)) refl there
    go (GarbageShort k) e there = absurd there
    go (HeaderShort k) e there = absurd there
    go (OffsetsShort k) e there = absurd there
    go (StylesShort k) e there = absurd there
    go (DataShort k) e there = absurd there

pub opened_of-fits
    : (f : List ℕ)
    → length f ≤ file_limit
    → PoolThere (opened_of f).end
    → Fits (tables_in f (opened_of f).head) (opened_of f).head
opened_of-fits f short there = go (ltb (length f) 8) refl (eqb (u16le f 2) 8) refl
  where
    go
        : (a : Bool) → ltb (length f) 8 ≡ a
        → (b : Bool) → eqb (u16le f 2) 8 ≡ b
        → Fits (tables_in f (opened_of f).head) (opened_of f).head
    go true p b q = absurd (rw (opened_of-small f (ltb-true (length f) 8 p)) at there)
    go false p false q = absurd (rw (opened_of-size f (ltb-false (length f) 8 p) (eqb-false (u16le f 2) 8 q)) at there)
    go false p true q =
        let e = opened_of-tables f (ltb-false (length f) 8 p) (eqb-true (u16le f 2) 8 q) in
        let there' = rw e at there in
        let l : length (drop 8 f) ≤ file_limit = rw length-drop (omega arith) in
        rw e (tables_of-fits (drop 8 f) l there')

-- ---- a whole head looks at nothing behind its map

mapped_by-behind
    : (t : List ℕ) (g : Option Garbage) (p : Pool) (r : Result ℕ MapShort)
    → (mapped_by t g p r).end ≡ Whole
    → p.strings + p.size ≤ head_len (mapped_by t g p r).head
mapped_by-behind t g p (Ok n) w = omega arith
mapped_by-behind t g p (Err (map_short.Header k)) w = omega arith
mapped_by-behind t g p (Err (map_short.Ids k)) w = omega arith

module _ (c m m' : List ℕ) where
  mapped_by-append
      : (g : Option Garbage) (p : Pool) (at : ℕ) (r : Result ℕ MapShort)
      → at ≡ p.strings + p.size
      → map_of (drop at (c ++ m)) ≡ r
      → (mapped_by (c ++ m) g p r).end ≡ Whole
      → head_len (mapped_by (c ++ m) g p r).head ≤ length c
      → mapped_by (c ++ m') g p (map_of (drop at (c ++ m'))) ≡ mapped_by (c ++ m) g p r
  mapped_by-append g p at (Ok n) a e w h =
      let split : drop at (c ++ m) ≡ drop at c ++ m = drop-append-le at c m (omega arith) in
      let split' : drop at (c ++ m') ≡ drop at c ++ m' = drop-append-le at c m' (omega arith) in
      let room : 8 + 4 * n ≤ length (drop at c) = rw length-drop (omega arith) in
      ap (mapped_by (c ++ m') g p) (ap map_of split' ∙ map_of-append (drop at c) m m' (sym (ap map_of split) ∙ e) room)
  mapped_by-append g p at (Err (map_short.Header k)) a e w h = let z : ◌≡◌ {A = ℕ} 0 1 = cc in absurd (let y : ⊥ = omega arith in y)
  mapped_by-append g p at (Err (map_short.Ids k)) a e w h = let z : ◌≡◌ {A = ℕ} 0 1 = cc in absurd (let y : ⊥ = omega arith in y)

  tables_of-append
      : (tables_of (c ++ m)).end ≡ Whole
      → head_len (tables_of (c ++ m)).head ≤ length c
      → tables_of (c ++ m') ≡ tables_of (c ++ m)
  unfolding tables_of
  tables_of-append = go (pool_of (c ++ m)).end refl
    where
      g : Option Garbage
      g = (pool_of (c ++ m)).garbage

      p : Pool
      p = (pool_of (c ++ m)).pool

      go
          : (e : PoolEnd)
          → (pool_of (c ++ m)).end ≡ e
          → (pooled_by (c ++ m) g p e).end ≡ Whole
          → head_len (pooled_by (c ++ m) g p e).head ≤ length c
          → pooled_by (c ++ m') (pool_of (c ++ m')).garbage (pool_of (c ++ m')).pool (pool_of (c ++ m')).end ≡ pooled_by (c ++ m) g p e
      go Complete e w h =
          let at = p.strings + p.size in
          let r = map_of (drop at (c ++ m)) in
          let low : at ≤ length c = le_trans (mapped_by-behind (c ++ m) g p r w) h in
          let same : pool_of (c ++ m') ≡ pool_of (c ++ m) = pool_of-append c m m' e low in
          rw (same, e) (mapped_by-append g p at r refl refl w h)
      go (GarbageShort k) e w h = let z : ◌≡◌ {A = ℕ} 0 1 = cc in absurd (let y : ⊥ = omega arith in y)
      go (HeaderShort k) e w h = let z : ◌≡◌ {A = ℕ} 0 1 = cc in absurd (let y : ⊥ = omega arith in y)
      go (OffsetsShort k) e w h = let z : ◌≡◌ {A = ℕ} 0 1 = cc in absurd (let y : ⊥ = omega arith in y)
      go (StylesShort k) e w h = let z : ◌≡◌ {A = ℕ} 0 1 = cc in absurd (let y : ⊥ = omega arith in y)
      go (DataShort k) e w h = let z : ◌≡◌ {A = ℕ} 0 1 = cc in absurd (let y : ⊥ = omega arith in y)

module _ (c m m' : List ℕ) where
  pub opened_of-append
      : (opened_of (c ++ m)).end ≡ Whole
      → 8 + head_len (opened_of (c ++ m)).head ≤ length c
      → opened_of (c ++ m') ≡ opened_of (c ++ m)
  opened_of-append w h = go (eqb (u16le c 2) 8) refl
    where
      long : (x : List ℕ) → 8 ≤ length (c ++ x)
      long x = rw length-append (omega arith)

      behind : (x : List ℕ) → drop 8 (c ++ x) ≡ drop 8 c ++ x
      behind x = drop-append-le 8 c x (omega arith)

      size : (x : List ℕ) → u16le (c ++ x) 2 ≡ u16le c 2
      size x = u16le-append c x 2 (omega arith)

      go : (b : Bool) → eqb (u16le c 2) 8 ≡ b → opened_of (c ++ m') ≡ opened_of (c ++ m)
      go false t =
          let n : u16le (c ++ m) 2 ≡ 8 → ⊥ = λ q. eqb-false (u16le c 2) 8 t (sym (size m) ∙ q) in
          let e = ap (λ (o : Opened). o.end) (opened_of-size (c ++ m) (long m) n) in
          let z : ◌≡◌ {A = ℕ} 0 1 = cc in
          absurd (let y : ⊥ = omega arith in y)
      go true t =
          let q = eqb-true (u16le c 2) 8 t in
          let e = opened_of-tables (c ++ m) (long m) (size m ∙ q) ∙ ap tables_of (behind m) in
          let e' = opened_of-tables (c ++ m') (long m') (size m' ∙ q) ∙ ap tables_of (behind m') in
          let w' = rw e at w in
          let h' : head_len (tables_of (drop 8 c ++ m)).head ≤ length (drop 8 c) = rw (← e, length-drop) (omega arith) in
          e' ∙ tables_of-append (drop 8 c) m m' w' h' ∙ sym e

module _ (c m : List ℕ) where
  pub tables_in-append : (o : Head) → 8 + head_len o ≤ length c → tables_in (c ++ m) o ≡ tables_in c o
  tables_in-append o h =
      rw (drop-append-le 8 c m (omega arith)) (take-append-le (head_len o) (drop 8 c) m (rw length-drop (omega arith)))

  pub body_in-append : (o : Head) → 8 + head_len o ≤ length c → body_in (c ++ m) o ≡ body_in c o ++ m
  body_in-append o h = drop-append-le (8 + head_len o) c m h
