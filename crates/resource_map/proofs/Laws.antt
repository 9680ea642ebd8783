-- Laws of specs/Map.antt. No contract cites this file.
-- In order: a map lies in its list (`map_of-fits`); it looks at nothing behind itself (`map_of-append`); a short one cut where
-- its short part should begin (`map_of-left`, `map_of-cut`); one id of a rest or of a
-- front (`id_of-drop`, `id_of-append`).
use Rattle.std.specs.Prelude.{Some, None, Result, Ok, Err}
use Prim.Native.Nat.{ℕ, ◌+◌, ◌-◌, ◌*◌, ◌≤◌, ◌<◌}
use native.Mathlib.Omega.{arith}
use mathlib.Core.Path.{◌≡◌, refl, sym, ◌∙◌}
use mathlib.Core.List.{List, ◌++◌}
use mathlib.Core.Bool.{Bool, true, false}
use borrow.Author.Tests.{ltb-true, ltb-false, lt-ltb, le-ltb}
use lib.ListN.{length, drop, length-append}
use lib.Dec.{ltb}
use Rattle.field.specs.Le.{u32le}
use Rattle.field.proofs.Laws.{u16le-append, u32le-append, u32le-drop}
use Rattle.common.specs.Header.{header_of}
use Rattle.common.proofs.Laws.{header_here, header_of-whole, header_of-short}
use Rattle.common.specs.declared.ResChunkHeader.{ResChunkHeader}
use Rattle.resource_map.specs.Map.{ids_in, ids_by, map_of, id_of}
use Rattle.resource_map.specs.declared.MapShort.{MapShort}
use Rattle.resource_map.specs.declared.MapShort.TheVariants as map_short

-- ---- the cases

pub ids_by-short : (n : ℕ) (h : ResChunkHeader) → n < 4 * ids_in h → ids_by n h ≡ Err (map_short.Ids n)
unfolding ids_by
ids_by-short n h p = rw (lt-ltb n (4 * ids_in h) p)

pub ids_by-whole : (n : ℕ) (h : ResChunkHeader) → 4 * ids_in h ≤ n → ids_by n h ≡ Ok (ids_in h)
unfolding ids_by
ids_by-whole n h p = rw (le-ltb n (4 * ids_in h) p)

-- there are ids: as many as the header says, and their bytes are there
pub ids_by-ids : (n : ℕ) (h : ResChunkHeader) {k : ℕ} → ids_by n h ≡ Ok k → (ids_in h ≡ k) × (4 * k ≤ n)
ids_by-ids n h {k} e = go (ltb n (4 * ids_in h)) refl
  where
    go : (b : Bool) → ltb n (4 * ids_in h) ≡ b → (ids_in h ≡ k) × (4 * k ≤ n)
    go true t =
        let s = ids_by-short n h (ltb-true _ _ t) in
        let z : ◌≡◌ {A = ℕ} 0 1 = cc in
        absurd (let y : ⊥ = omega arith in y)
    go false t =
        let w = ids_by-whole n h (ltb-false _ _ t) in
        let q : ids_in h ≡ k = cc in
        (q, omega (arith, ltb-false n (4 * ids_in h) t))

pub map_of-of-short : (l : List ℕ) → header_of l ≡ None → map_of l ≡ Err (map_short.Header (length l))
unfolding map_of
map_of-of-short l w = rw w

pub map_of-of-whole : (l : List ℕ) {h : ResChunkHeader} → header_of l ≡ Some h → map_of l ≡ ids_by (length l - 8) h
unfolding map_of
map_of-of-whole l w = rw w

pub map_of-short : (l : List ℕ) → length l < 8 → map_of l ≡ Err (map_short.Header (length l))
map_of-short l p = map_of-of-short l (header_of-short l p)

pub map_of-behind : (l : List ℕ) → 8 ≤ length l → map_of l ≡ ids_by (length l - 8) (header_here l)
map_of-behind l p = map_of-of-whole l (header_of-whole l p)

-- ---- a map lies in its list

pub map_of-fits : (l : List ℕ) {n : ℕ} → map_of l ≡ Ok n → 8 + 4 * n ≤ length l
map_of-fits l {n} e = go (ltb (length l) 8) refl
  where
    go : (b : Bool) → ltb (length l) 8 ≡ b → 8 + 4 * n ≤ length l
    go true t =
        let s = map_of-short l (ltb-true _ _ t) in
        let z : ◌≡◌ {A = ℕ} 0 1 = cc in
        omega arith
    go false t =
        let p : 8 ≤ length l = ltb-false _ _ t in
        let q = ids_by-ids (length l - 8) (header_here l) (sym (map_of-behind l p) ∙ e) in
        omega arith

-- ---- it looks at nothing behind itself

pub map_of-append : (c m m' : List ℕ) {n : ℕ} → map_of (c ++ m) ≡ Ok n → 8 + 4 * n ≤ length c → map_of (c ++ m') ≡ Ok n
map_of-append c m m' {n} e p =
    let a : length (c ++ m) ≡ length c + length m = length-append c m in
    let a' : length (c ++ m') ≡ length c + length m' = length-append c m' in
    let same : header_here (c ++ m) ≡ header_here (c ++ m') =
    rw (
      u16le-append c m 0 (omega arith),
      u16le-append c m 2 (omega arith),
      u32le-append c m 4 (omega arith),
      u16le-append c m' 0 (omega arith),
      u16le-append c m' 2 (omega arith),
      u32le-append c m' 4 (omega arith),
    ) in
    let q = ids_by-ids (length (c ++ m) - 8) (header_here (c ++ m)) (sym (map_of-behind (c ++ m) (omega arith)) ∙ e) in
    let k : ids_in (header_here (c ++ m')) ≡ n = rw (← same) q.0 in
    map_of-behind (c ++ m') (omega arith) ∙ (ids_by-whole (length (c ++ m') - 8) (header_here (c ++ m')) (omega arith) ∙ rw k)

-- ---- of a map that is short, the bytes from the short part on can go, and it is short there with none left

abbrev pub left_of : Result ℕ MapShort → ℕ
left_of (Ok n) = 0
left_of (Err (map_short.Header k)) = k
left_of (Err (map_short.Ids k)) = k

abbrev pub none_left : Result ℕ MapShort → Result ℕ MapShort
none_left (Ok n) = Ok n
none_left (Err (map_short.Header k)) = Err (map_short.Header 0)
none_left (Err (map_short.Ids k)) = Err (map_short.Ids 0)

abbrev pub IsShort : Result ℕ MapShort → Type 0
IsShort (Ok n) = ⊥
IsShort (Err (map_short.Header k)) = Unit {0}
IsShort (Err (map_short.Ids k)) = Unit {0}

pub map_of-left : (l : List ℕ) → IsShort (map_of l) → left_of (map_of l) ≤ length l
map_of-left l short = go (ltb (length l) 8) refl
  where
    ids : 8 ≤ length l → (b : Bool) → ltb (length l - 8) (4 * ids_in (header_here l)) ≡ b → left_of (map_of l) ≤ length l
    ids p true t = rw (map_of-behind l p, ids_by-short (length l - 8) (header_here l) (ltb-true _ _ t)) (omega arith)
    ids p false t = rw (map_of-behind l p, ids_by-whole (length l - 8) (header_here l) (ltb-false _ _ t)) (omega arith)

    go : (b : Bool) → ltb (length l) 8 ≡ b → left_of (map_of l) ≤ length l
    go true t = rw (map_of-short l (ltb-true _ _ t)) (omega arith)
    go false t = ids (ltb-false _ _ t) (ltb (length l - 8) (4 * ids_in (header_here l))) refl

pub map_of-cut : (c m : List ℕ) → IsShort (map_of (c ++ m)) → left_of (map_of (c ++ m)) ≡ length m → map_of c ≡ none_left (map_of (c ++ m))
map_of-cut c m short left = go (ltb (length (c ++ m)) 8) refl
  where
    sum : length (c ++ m) ≡ length c + length m
    sum = length-append c m

    ids
        : 8 ≤ length (c ++ m)
        → (b : Bool) → ltb (length (c ++ m) - 8) (4 * ids_in (header_here (c ++ m))) ≡ b
        → map_of c ≡ none_left (map_of (c ++ m))
    ids p false t =
        let e = map_of-behind (c ++ m) p ∙ ids_by-whole (length (c ++ m) - 8) (header_here (c ++ m)) (ltb-false _ _ t) in
        absurd (rw e at short)
    ids p true t =
        let lt = ltb-true (length (c ++ m) - 8) (4 * ids_in (header_here (c ++ m))) t in
        let e = map_of-behind (c ++ m) p ∙ ids_by-short (length (c ++ m) - 8) (header_here (c ++ m)) lt in
        let left' : length (c ++ m) - 8 ≡ length m = rw e at left in
        let is : length c ≡ 8 = omega (arith, sum, left', p) in
        let z : length c - 8 ≡ 0 = omega (arith, is) in
        let same : header_here (c ++ m) ≡ header_here c =
        rw (u16le-append c m 0 (omega (arith, is)), u16le-append c m 2 (omega (arith, is)), u32le-append c m 4 (omega (arith, is))) in
        let lt' : 0 < 4 * ids_in (header_here c) = rw (← same) (omega (arith, lt)) in
        rw (e, map_of-behind c (omega (arith, is)), z, ids_by-short 0 (header_here c) lt')

    go : (b : Bool) → ltb (length (c ++ m)) 8 ≡ b → map_of c ≡ none_left (map_of (c ++ m))
    go true t =
        let e = map_of-short (c ++ m) (ltb-true _ _ t) in
        let left' : length (c ++ m) ≡ length m = rw e at left in
        let z : length c ≡ 0 = omega (arith, sum, left') in
        rw (e, map_of-short c (omega (arith, z)), z)
    go false t = ids (ltb-false _ _ t) (ltb (length (c ++ m) - 8) (4 * ids_in (header_here (c ++ m)))) refl

-- ---- one id

pub id_of-drop : (s : List ℕ) (n i : ℕ) → id_of (drop n s) i ≡ u32le s (n + 4 * i)
unfolding id_of
id_of-drop s n i = u32le-drop s n (4 * i)

pub id_of-append : (c m : List ℕ) (i : ℕ) → 4 * i + 4 ≤ length c → id_of (c ++ m) i ≡ id_of c i
unfolding id_of
id_of-append c m i h = u32le-append c m (4 * i) h
