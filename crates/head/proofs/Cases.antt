-- The cases of specs/Head.antt, and the parts of a file by a head. No contract cites this file.
-- In order: the map (`mapped_by-of`), the pool (`tables_of-complete`, `tables_of-cut`), the file's header (`opened_of-small`, `-size`,
-- `-tables`); as many bytes as are there (`take_min`, `drop_min`, `tables_in-by`, `body_in-by`); the offsets (`outside_in-by`).
use Rattle.std.specs.Prelude.{Result, Option}
use Prim.Native.Nat.{ℕ, ◌+◌, ◌-◌, ◌*◌, ◌/◌, ◌≤◌, ◌<◌, min}
use native.Mathlib.Omega.{arith}
use native.Mathlib.Nat.{le_of_eq}
use mathlib.Core.Path.{◌≡◌, refl, sym, ap, ◌∙◌}
use mathlib.Core.List.{List, []}
use mathlib.Core.Bool.{Bool, true, false}
use borrow.Author.Tests.{leb-true, leb-false, lt-ltb, le-ltb, eq-eqb, ne_eqb}
use lib.ListN.{length, take, drop, length-drop, drop_of_length-le}
use lib.Seq.{take_all, drop-drop, take-nil, length-take-le}
use lib.Dec.{leb}
use Rattle.field.specs.Le.{u16le}
use Rattle.res_string_pool.specs.Pool.{pool_of, outside_of}
use Rattle.res_string_pool.specs.declared.Garbage.{Garbage}
use Rattle.res_string_pool.specs.declared.Pool.{Pool}
use Rattle.res_string_pool.specs.declared.PoolRead.{PoolRead}
use Rattle.res_string_pool.specs.declared.PoolEnd.{PoolEnd}
use Rattle.res_string_pool.specs.declared.PoolEnd.TheVariants.{Complete}
use Rattle.res_string_pool.proofs.Offsets.{outside_of-take}
use Rattle.res_string_pool.proofs.Laws.{pool_of-fits}
use Rattle.resource_map.specs.Map.{map_of}
use Rattle.text.specs.declared.Head.{Head}
use Rattle.text.specs.Inner.Found.{Fits}
use Rattle.head.specs.Head.{cut_pool, mapped_by, pooled_by, unopened, tables_of, opened_of, head_len, tables_in, body_in, outside_in}
use Rattle.head.specs.declared.HeadEnd.TheVariants.{TooSmall, HeaderSize}
use Rattle.head.specs.declared.PoolPart.{PoolPart}
use Rattle.resource_map.specs.declared.MapShort.{MapShort}

-- all that follows a place, as a range gives it
pub rest_all : (at : ℕ) (l : List ℕ) → take (length l - at) (drop at l) ≡ drop at l
rest_all at l = take_all (length l - at) (drop at l) (le_of_eq (length-drop at l))

-- ---- the map

pub mapped_by-of
    : (g : Option Garbage) (p : Pool) (at : ℕ) (t : List ℕ) {r m : Result ℕ MapShort}
    → r ≡ map_of (take (length t - at) (drop at t))
    → r ≡ m
    → mapped_by t g p m ≡ mapped_by t g p (map_of (drop at t))
mapped_by-of g p at t e f = ap (mapped_by t g p) (sym f ∙ e ∙ ap map_of (rest_all at t))

-- ---- the pool

module _ (t : List ℕ) {r : PoolRead} (e : r ≡ pool_of t) where
  tables_of-by : pooled_by t r.garbage r.pool r.end ≡ tables_of t
  unfolding tables_of
  tables_of-by = rw e

  pub tables_of-complete
      : r.end ≡ Complete
      → mapped_by t r.garbage r.pool (map_of (drop (r.pool.strings + r.pool.size) t)) ≡ tables_of t
  tables_of-complete q = ap (pooled_by t r.garbage r.pool) (sym q) ∙ tables_of-by

  pub pool-fits : r.end ≡ Complete → r.pool.strings + r.pool.size ≤ length t
  pool-fits q =
      let all : (pool_of t).end ≡ Complete = ap (λ (x : PoolRead). x.end) (sym e) ∙ q in
      rw e (pool_of-fits t all)

  -- a part ran out, and v is where it should begin
  pub tables_of-cut
      : {s : PoolEnd} {v : ℕ} (left : ℕ) (part : ℕ → PoolPart)
      → r.end ≡ s
      → v ≡ 8 + length t - left
      → cut_pool r.garbage r.pool (part (8 + length t - left)) ≡ pooled_by t r.garbage r.pool s
      → cut_pool r.garbage r.pool (part v) ≡ tables_of t
  tables_of-cut left part q a i = ap (λ (x : ℕ). cut_pool r.garbage r.pool (part x)) a ∙ i ∙ ap (pooled_by t r.garbage r.pool) (sym q) ∙ tables_of-by

-- ---- the file's header

module _ (f : List ℕ) where
  pub opened_of-small : length f < 8 → opened_of f ≡ unopened (TooSmall (length f))
  unfolding opened_of
  opened_of-small p = rw (lt-ltb (length f) 8 p)

  pub opened_of-size : 8 ≤ length f → (u16le f 2 ≡ 8 → ⊥) → opened_of f ≡ unopened (HeaderSize (u16le f 2))
  unfolding opened_of
  opened_of-size p q = rw (le-ltb (length f) 8 p, ne_eqb (u16le f 2) 8 q)

  pub opened_of-tables : 8 ≤ length f → u16le f 2 ≡ 8 → opened_of f ≡ tables_of (drop 8 f)
  unfolding opened_of
  opened_of-tables p q = rw (le-ltb (length f) 8 p, eq-eqb (u16le f 2) 8 q)

-- ---- as many bytes as are there

take_min : (k : ℕ) (l : List ℕ) → take (min k (length l)) l ≡ take k l
take_min k l = go (leb k (length l)) refl
  where
    go : (b : Bool) → leb k (length l) ≡ b → take (min k (length l)) l ≡ take k l
    go true t = let e : min k (length l) ≡ k = omega (arith, leb-true k (length l) t) in rw e
    go false t =
        let p = leb-false k (length l) t in
        let e : min k (length l) ≡ length l = omega arith in
        rw (e, take_all (length l) l (omega arith), take_all k l (omega arith))

drop_min : (k : ℕ) (l : List ℕ) → drop (min k (length l)) l ≡ drop k l
drop_min k l = go (leb k (length l)) refl
  where
    go : (b : Bool) → leb k (length l) ≡ b → drop (min k (length l)) l ≡ drop k l
    go true t = let e : min k (length l) ≡ k = omega (arith, leb-true k (length l) t) in rw e
    go false t =
        let p = leb-false k (length l) t in
        let e : min k (length l) ≡ length l = omega arith in
        rw (e, drop_of_length-le l {i = length l} (omega arith), drop_of_length-le l {i = k} (omega arith))

module _ (f : List ℕ) (h : Head) where
  pub tables_in-small : length f < 8 → [] ≡ tables_in f h
  tables_in-small p = rw (drop_of_length-le f {i = 8} (omega arith), take-nil)

  pub body_in-small : length f < 8 → [] ≡ body_in f h
  body_in-small p = rw (drop_of_length-le f {i = 8 + head_len h} (omega arith))

  -- t is what is behind the file's header
  pub tables_in-by : {t : List ℕ} (n : ℕ) → t ≡ drop 8 f → n ≡ min (head_len h) (length t) → take n t ≡ tables_in f h
  tables_in-by n q e = rw (e, q) (take_min (head_len h) (drop 8 f))

  pub body_in-by : {t : List ℕ} (n : ℕ) → t ≡ drop 8 f → n ≡ min (head_len h) (length t) → drop n t ≡ body_in f h
  body_in-by n q e = rw (e, q) (drop_min (head_len h) (drop 8 f) ∙ drop-drop (head_len h) 8 f)

-- ---- the offsets

pub outside_in-by
    : (t : List ℕ) (h : Head) (n : ℕ)
    → Fits t h
    → n ≡ 4 * h.count
    → outside_of (take n (drop h.offsets t)) h.size (length (take n (drop h.offsets t)) / 4) ≡ outside_in t h
unfolding outside_in
outside_in-by t h n f e =
    let l : length (take n (drop h.offsets t)) ≡ n = length-take-le n (drop h.offsets t) (rw length-drop (omega arith)) in
    let q : length (take n (drop h.offsets t)) / 4 ≡ h.count = rw l (omega arith) in
    rw q (outside_of-take n (drop h.offsets t) h.size h.count (omega arith))
