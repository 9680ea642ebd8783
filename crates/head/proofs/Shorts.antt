-- Laws of a head of which a part is short (41 to 45, 51, 52): its refusal's value is where the part should begin, and what stands behind that place can go. No
-- contract cites this file.
-- In order: the pool (`pool-cut`), the map (`map-cut`), the head of a file (`opened-cut`).
use Rattle.std.specs.Prelude.{Result, Ok, Err, Option}
use Prim.Native.Nat.{ℕ, ◌+◌, ◌-◌, ◌≤◌}
use native.Mathlib.Omega.{arith}
use mathlib.Core.Path.{◌≡◌, refl, sym, ap, ◌∙◌}
use mathlib.Core.List.{List, [], ◌∷◌, ◌++◌}
use mathlib.Core.Bool.{Bool, true, false}
use borrow.Author.Tests.{ltb-true, ltb-false, eqb-true, eqb-false}
use lib.ListN.{length, take, drop, length-drop, length-append, take-append-drop}
use lib.Seq.{drop-append-le, length-take-le}
use lib.Dec.{ltb, eqb}
use Rattle.field.specs.Le.{u16le}
use Rattle.text.proofs.Parts.{drop-take}
use Rattle.field.proofs.Laws.{u16le-append}
use Rattle.errors.specs.Refusal.{refusal_value}
use Rattle.errors.specs.declared.Refusal.{Refusal}
use Rattle.res_string_pool.specs.Pool.{pool_of}
use Rattle.res_string_pool.specs.declared.Garbage.{Garbage}
use Rattle.res_string_pool.specs.declared.Pool.{Pool}
use Rattle.res_string_pool.specs.declared.PoolEnd.{PoolEnd}
use Rattle.res_string_pool.specs.declared.PoolEnd.TheVariants.{Complete, GarbageShort, HeaderShort, OffsetsShort, StylesShort, DataShort}
use Rattle.res_string_pool.proofs.Laws.{pool_of-fits}
use Rattle.res_string_pool.proofs.Append.{pool_of-append}
use Rattle.res_string_pool.proofs.Shorts.{left_of, emptied, IsShort, pool_of-left, pool_of-cut}
use Rattle.resource_map.specs.Map.{map_of}
use Rattle.resource_map.proofs.Laws.{left_of as map_left, none_left as map_none, IsShort as MapIsShort, map_of-left, map_of-cut}
use Rattle.head.specs.Head.{cut_pool, cut_map, mapped_by, pooled_by, pool_refusal, map_refusal, tables_of, opened_of, head_len}
use Rattle.head.specs.declared.HeadEnd.{HeadEnd}
use Rattle.head.specs.declared.HeadEnd.TheVariants.{Whole, TooSmall, HeaderSize, PoolShort, MapShort}
use Rattle.head.specs.declared.PoolPart.TheVariants.{Skipped, Header, Offsets, Styles, Data}
use Rattle.head.specs.declared.MapPart.TheVariants.{MapHeader, MapIds}
use Rattle.head.proofs.Cases.{opened_of-small, opened_of-size, opened_of-tables}
use Rattle.resource_map.specs.declared.MapShort.{MapShort as MapMissing}
use Rattle.resource_map.specs.declared.MapShort.TheVariants as map_short

append-nil : (l : List ℕ) → l ++ [] ≡ l
append-nil [] = refl
append-nil (x ∷ l) = ap (λ (r : List ℕ). x ∷ r) (append-nil l)

le-by : {a b c : ℕ} → a ≤ b → b ≡ c → a ≤ c
le-by h e = rw (← e) h

-- a part of pool or map is short, by the refusal r
abbrev pub ShortBy : HeadEnd → Refusal → Type 0
ShortBy Whole r = ⊥
ShortBy (TooSmall n) r = ⊥
ShortBy (HeaderSize n) r = ⊥
ShortBy (PoolShort e) r = pool_refusal e ≡ r
ShortBy (MapShort e) r = map_refusal e ≡ r

-- of the bytes t behind the file's header, those before the file offset v say the same
pub record TablesCut (t : List ℕ) (v : ℕ) : Type 0 where
  pub low : 8 + head_len (tables_of t).head ≤ v
  pub high : v ≤ 8 + length t
  pub same : tables_of (take (v - 8) t) ≡ tables_of t

-- ---- the pool

-- none left, of fewer bytes: the offset is the same
pooled_by-none
    : (c t : List ℕ) (g : Option Garbage) (p : Pool) (e : PoolEnd)
    → IsShort e
    → 8 + length c - 0 ≡ 8 + length t - left_of e
    → pooled_by c g p (emptied e) ≡ pooled_by t g p e
pooled_by-none c t g p Complete s q = absurd s
pooled_by-none c t g p (GarbageShort k) s q = ap (λ (v : ℕ). cut_pool g p (Skipped v)) q
pooled_by-none c t g p (HeaderShort k) s q = ap (λ (v : ℕ). cut_pool g p (Header v)) q
pooled_by-none c t g p (OffsetsShort k) s q = ap (λ (v : ℕ). cut_pool g p (Offsets v)) q
pooled_by-none c t g p (StylesShort k) s q = ap (λ (v : ℕ). cut_pool g p (Styles v)) q
pooled_by-none c t g p (DataShort k) s q = ap (λ (v : ℕ). cut_pool g p (Data v)) q

-- a short pool leaves no tables to read from
pooled_by-bare : (t : List ℕ) (g : Option Garbage) (p : Pool) (e : PoolEnd) → IsShort e → head_len (pooled_by t g p e).head ≡ 0
pooled_by-bare t g p Complete s = absurd s
pooled_by-bare t g p (GarbageShort k) s = refl
pooled_by-bare t g p (HeaderShort k) s = refl
pooled_by-bare t g p (OffsetsShort k) s = refl
pooled_by-bare t g p (StylesShort k) s = refl
pooled_by-bare t g p (DataShort k) s = refl

tables-pool : (c m : List ℕ) → IsShort (pool_of (c ++ m)).end → left_of (pool_of (c ++ m)).end ≡ length m → tables_of c ≡ tables_of (c ++ m)
unfolding tables_of
tables-pool c m short left =
    let q : 8 + length c - 0 ≡ 8 + length (c ++ m) - left_of (pool_of (c ++ m)).end = omega (arith, left, length-append c m) in
    rw (pool_of-cut c m short left) (pooled_by-none c (c ++ m) (pool_of (c ++ m)).garbage (pool_of (c ++ m)).pool (pool_of (c ++ m)).end short q)

pub pool-cut : (t : List ℕ) → IsShort (pool_of t).end → TablesCut t (8 + length t - left_of (pool_of t).end)
unfolding tables_of
pool-cut t short =
    let k = left_of (pool_of t).end in
    let few : k ≤ length t = pool_of-left t short in
    let n : 8 + length t - k - 8 ≡ length t - k = omega (arith, few) in
    let c = take (length t - k) t in
    let m = drop (length t - k) t in
    let whole : c ++ m ≡ t = take-append-drop (length t - k) t in
    let left : left_of (pool_of (c ++ m)).end ≡ length m = ap (λ (l : List ℕ). left_of (pool_of l).end) whole ∙ sym (length-drop (length t - k) t ∙ omega (arith, few)) in
    let short' : IsShort (pool_of (c ++ m)).end = rw whole short in
    record {
      low = omega (arith, few, pooled_by-bare t (pool_of t).garbage (pool_of t).pool (pool_of t).end short);
      high = omega arith;
      same = ap (λ (j : ℕ). tables_of (take j t)) n ∙ tables-pool c m short' left ∙ ap tables_of whole;
    }

-- ---- the map

mapped_by-none
    : (c t : List ℕ) (g : Option Garbage) (p : Pool) (r : Result ℕ MapMissing)
    → MapIsShort r
    → 8 + length c - 0 ≡ 8 + length t - map_left r
    → mapped_by c g p (map_none r) ≡ mapped_by t g p r
mapped_by-none c t g p (Ok n) s q = absurd s
mapped_by-none c t g p (Err (map_short.Header k)) s q = ap (λ (v : ℕ). cut_map g p (p.strings + p.size) (MapHeader v)) q
mapped_by-none c t g p (Err (map_short.Ids k)) s q = ap (λ (v : ℕ). cut_map g p (p.strings + p.size) (MapIds v)) q

-- a short map leaves the pool to read from
mapped_by-bare : (t : List ℕ) (g : Option Garbage) (p : Pool) (r : Result ℕ MapMissing) → MapIsShort r → head_len (mapped_by t g p r).head ≡ p.strings + p.size
mapped_by-bare t g p (Ok n) s = absurd s
mapped_by-bare t g p (Err (map_short.Header k)) s = omega arith
mapped_by-bare t g p (Err (map_short.Ids k)) s = omega arith

-- the map behind a pool that is complete
abbrev map_in : List ℕ → Result ℕ MapMissing
map_in t = map_of (drop ((pool_of t).pool.strings + (pool_of t).pool.size) t)

tables-map
    : (c m : List ℕ)
    → (pool_of (c ++ m)).end ≡ Complete
    → (pool_of (c ++ m)).pool.strings + (pool_of (c ++ m)).pool.size ≤ length c
    → MapIsShort (map_in (c ++ m))
    → map_left (map_in (c ++ m)) ≡ length m
    → tables_of c ≡ tables_of (c ++ m)
unfolding tables_of
tables-map c m all low short left =
    let p = (pool_of (c ++ m)).pool in
    let at = p.strings + p.size in
    let nil : c ++ [] ≡ c = append-nil c in
    let same : pool_of c ≡ pool_of (c ++ m) = ap pool_of (sym nil) ∙ pool_of-append c m [] all low in
    let split : drop at (c ++ m) ≡ drop at c ++ m = drop-append-le at c m low in
    let short' = rw split at short in
    let left' = rw split at left in
    let map : map_of (drop at c) ≡ map_none (map_of (drop at (c ++ m))) = map_of-cut (drop at c) m short' left' ∙ ap (λ (l : List ℕ). map_none (map_of l)) (sym split) in
    let q : 8 + length c - 0 ≡ 8 + length (c ++ m) - map_left (map_in (c ++ m)) = omega (arith, left, length-append c m) in
    rw (same, all, map) (mapped_by-none c (c ++ m) (pool_of (c ++ m)).garbage p (map_in (c ++ m)) short q)

pub map-cut : (t : List ℕ) → (pool_of t).end ≡ Complete → MapIsShort (map_in t) → TablesCut t (8 + length t - map_left (map_in t))
unfolding tables_of
map-cut t all short =
    let at = (pool_of t).pool.strings + (pool_of t).pool.size in
    let room : at ≤ length t = pool_of-fits t all in
    let k = map_left (map_in t) in
    let few : k ≤ length t - at = le-by (map_of-left (drop at t) short) (length-drop at t) in
    let n : 8 + length t - k - 8 ≡ length t - k = omega (arith, few) in
    let c = take (length t - k) t in
    let m = drop (length t - k) t in
    let whole : c ++ m ≡ t = take-append-drop (length t - k) t in
    let long : length c ≡ length t - k = length-take-le (length t - k) t (omega arith) in
    let left : map_left (map_in (c ++ m)) ≡ length m = ap (λ (l : List ℕ). map_left (map_in l)) whole ∙ sym (length-drop (length t - k) t ∙ omega (arith, few)) in
    let all' : (pool_of (c ++ m)).end ≡ Complete = rw whole all in
    let low' : (pool_of (c ++ m)).pool.strings + (pool_of (c ++ m)).pool.size ≤ length c = rw whole (omega (arith, few, room, long)) in
    let short' : MapIsShort (map_in (c ++ m)) = rw whole short in
    record {
      low = rw all (omega (arith, few, room, mapped_by-bare t (pool_of t).garbage (pool_of t).pool (map_in t) short));
      high = omega arith;
      same = ap (λ (j : ℕ). tables_of (take j t)) n ∙ tables-map c m all' low' short' left ∙ ap tables_of whole;
    }

-- ---- a file

-- the value of the refusal is a place in the file behind the tables that can be read, and the bytes before it say the same
pub record OpenedCut (f : List ℕ) (v : ℕ) : Type 0 where
  pub low : 8 + head_len (opened_of f).head ≤ v
  pub high : v ≤ length f
  pub same : opened_of (take v f) ≡ opened_of f

value-by : (t : List ℕ) (v : ℕ) (r : Refusal) → refusal_value r ≡ v → TablesCut t v → TablesCut t (refusal_value r)
value-by t v r e c = rw e c

mapped-short
    : (t : List ℕ) (r : Refusal) (all : (pool_of t).end ≡ Complete)
    → (x : Result ℕ MapMissing) → map_in t ≡ x
    → ShortBy (mapped_by t (pool_of t).garbage (pool_of t).pool x).end r
    → TablesCut t (refusal_value r)
unfolding refusal_value
mapped-short t r all (Ok n) e s = absurd s
mapped-short t r all (Err (map_short.Header k)) e s = value-by t _ r (ap refusal_value (sym s)) (rw e at (map-cut t all (rw e tt)))
mapped-short t r all (Err (map_short.Ids k)) e s = value-by t _ r (ap refusal_value (sym s)) (rw e at (map-cut t all (rw e tt)))

tables-short : (t : List ℕ) (r : Refusal) → ShortBy (tables_of t).end r → TablesCut t (refusal_value r)
unfolding tables_of refusal_value
tables-short t r s = go (pool_of t).end refl s
  where
    go : (e : PoolEnd) → (pool_of t).end ≡ e → ShortBy (pooled_by t (pool_of t).garbage (pool_of t).pool e).end r → TablesCut t (refusal_value r)
    go Complete e q = mapped-short t r e (map_in t) refl q
    go (GarbageShort k) e q = value-by t _ r (ap refusal_value (sym q)) (rw e at (pool-cut t (rw e tt)))
    go (HeaderShort k) e q = value-by t _ r (ap refusal_value (sym q)) (rw e at (pool-cut t (rw e tt)))
    go (OffsetsShort k) e q = value-by t _ r (ap refusal_value (sym q)) (rw e at (pool-cut t (rw e tt)))
    go (StylesShort k) e q = value-by t _ r (ap refusal_value (sym q)) (rw e at (pool-cut t (rw e tt)))
    go (DataShort k) e q = value-by t _ r (ap refusal_value (sym q)) (rw e at (pool-cut t (rw e tt)))

pub opened-cut : (f : List ℕ) (r : Refusal) → ShortBy (opened_of f).end r → OpenedCut f (refusal_value r)
opened-cut f r s = go (ltb (length f) 8) refl (eqb (u16le f 2) 8) refl
  where
    go : (a : Bool) → ltb (length f) 8 ≡ a → (b : Bool) → eqb (u16le f 2) 8 ≡ b → OpenedCut f (refusal_value r)
    go true p b q = absurd (rw (opened_of-small f (ltb-true (length f) 8 p)) at s)
    go false p false q = absurd (rw (opened_of-size f (ltb-false (length f) 8 p) (eqb-false (u16le f 2) 8 q)) at s)
    go false p true q =
        let long = ltb-false (length f) 8 p in
        let e = opened_of-tables f long (eqb-true (u16le f 2) 8 q) in
        let c = tables-short (drop 8 f) r (rw e at s) in
        let l : length (drop 8 f) ≡ length f - 8 = length-drop 8 f in
        let inside : refusal_value r ≤ length f = omega (arith, c.high, l, long) in
        let far : 8 ≤ refusal_value r = omega (arith, c.low) in
        let len : length (take (refusal_value r) f) ≡ refusal_value r = length-take-le (refusal_value r) f inside in
        let whole : take (refusal_value r) f ++ drop (refusal_value r) f ≡ f = take-append-drop (refusal_value r) f in
        let size : u16le (take (refusal_value r) f) 2 ≡ 8 =
        sym (u16le-append (take (refusal_value r) f) (drop (refusal_value r) f) 2 (omega (arith, len, far))) ∙ ap (λ (l : List ℕ). u16le l 2) whole
        ∙ eqb-true (u16le f 2) 8 q in
        let k : 8 + (refusal_value r - 8) ≡ refusal_value r = omega (arith, far) in
        let rest : drop 8 (take (refusal_value r) f) ≡ take (refusal_value r - 8) (drop 8 f) =
        ap (λ (j : ℕ). drop 8 (take j f)) (sym k) ∙ drop-take 8 (refusal_value r - 8) f (omega (arith, inside, far)) in
        record {
          low = rw e c.low;
          high = inside;
          same = opened_of-tables (take (refusal_value r) f) (omega (arith, len, far)) size ∙ ap tables_of rest ∙ c.same ∙ sym e;
        }
