-- The numbers of the head of a file of bytes are below 2^32: docs/FORMAT.md, H1 to H16. For proofs/Small/Events.antt. No contract cites this file.
--
--   SmallOpened    what the head says of the pool, and the value of its refusal, fit
--   opened-small   so it is with every file of bytes that is not too long
use Rattle.std.specs.Prelude.{Option, Some, None, Result, Ok, Err}
use Prim.Native.Nat.{ℕ, ◌+◌, ◌-◌}
use native.Mathlib.Omega.{arith}
use mathlib.Core.List.{List}
use lib.ListN.{length, drop, length-drop}
use lib.Dec.{ltb, eqb}
use Rattle.field.specs.Le.{u16le, u32le}
use Rattle.errors.specs.Refusal.{refusal_value}
use Rattle.common.specs.Header.{header_of, content_size}
use Rattle.common.specs.declared.ResChunkHeader.{ResChunkHeader}
use Rattle.res_string_pool.specs.declared.Garbage.{Garbage}
use Rattle.res_string_pool.specs.declared.Pool.{Pool}
use Rattle.res_string_pool.specs.declared.PoolRead.{PoolRead}
use Rattle.res_string_pool.specs.declared.PoolEnd.{PoolEnd}
use Rattle.res_string_pool.specs.declared.PoolEnd.TheVariants.{Complete, GarbageShort, HeaderShort, OffsetsShort, StylesShort, DataShort}
use Rattle.res_string_pool.specs.Pool.{count_of, unread, numbered, pool_from, second_by, behind_garbage, pool_by, pool_of}
use Rattle.resource_map.specs.Map.{map_of}
use Rattle.head.specs.declared.Opened.{Opened}
use Rattle.head.specs.Head.{mapped_by, pooled_by, tables_of, opened_of, refusal_of}
use Rattle.xml_elements.proofs.Laws.{cond-by}
use Rattle.claims.proofs.Events.EventCases.{garbage, count}
use Rattle.claims.proofs.Small.Bytes.{Fits, InBytes, drop-bytes, u16-fits, u32-fits, SmallHeader, SmallRead, header-small}
use Rattle.resource_map.specs.declared.MapShort.{MapShort}
use Rattle.resource_map.specs.declared.MapShort.TheVariants as map_short

pub record SmallGarbage (g : Garbage) : Type 0 where
  pub kind : Fits g.kind
  pub skipped : Fits g.skipped

abbrev pub SmallSkipped : Option Garbage → Type 0
SmallSkipped None = Unit {0}
SmallSkipped (Some g) = SmallGarbage g

record SmallPool (p : Pool) : Type 0 where
  declared : Fits p.declared
  count : Fits p.count

record SmallPoolRead (r : PoolRead) : Type 0 where
  garbage : SmallSkipped r.garbage
  pool : SmallPool r.pool

unread-small : (g : Option Garbage) (e : PoolEnd) → SmallSkipped g → SmallPoolRead (unread g e)
unread-small g e w = record { garbage = w; pool = record { declared = omega arith; count = omega arith } }

count_small : (start styles : ℕ) → Fits start → Fits (count_of start styles)
unfolding count_of
count_small start styles h = omega arith

numbered-small : (at : ℕ) (x : ResChunkHeader) (m : List ℕ) → InBytes m → SmallPool (numbered at x m)
unfolding numbered
numbered-small at x m h = record { declared = u32-fits m h 8; count = count_small (u32le m 20) (u32le m 12) (u32-fits m h 20) }

from-small : (g : Option Garbage) → SmallSkipped g → (at : ℕ) (x : ResChunkHeader) (m : List ℕ) → InBytes m → SmallPoolRead (pool_from g at x m)
unfolding pool_from
from-small g w at x m h =
    cond-by SmallPoolRead (ltb (length m) 28) (λ e. unread-small g (HeaderShort (length m - 8)) w)
    (λ e. record { garbage = w; pool = numbered-small at x m h })

second-small : (g : Option Garbage) → SmallSkipped g → (at : ℕ) (m : List ℕ) → InBytes m → (x : Option ResChunkHeader) → SmallPoolRead (second_by g at m x)
second-small g w at m h None = unread-small g (HeaderShort (length m)) w
second-small g w at m h (Some x) = from-small g w at x m h

garbage-small : (x : ResChunkHeader) → SmallHeader x → (l : List ℕ) → InBytes l → SmallPoolRead (behind_garbage x l)
unfolding behind_garbage
garbage-small x w l h =
    let m = drop (8 + content_size x) l in
    cond-by SmallPoolRead (ltb (length l - 8) (content_size x)) (λ e. unread-small None (GarbageShort (length l - 8)) tt)
    (λ e. second-small (Some (record { kind = x.kind; skipped = content_size x })) (record { kind = w.kind; skipped = omega (arith, w.size) })
    (8 + content_size x) m (drop-bytes (8 + content_size x) l h) (header_of m))

pool-by : (l : List ℕ) → InBytes l → (x : Option ResChunkHeader) → SmallRead x → SmallPoolRead (pool_by l x)
pool-by l h None w = unread-small None (HeaderShort (length l)) tt
pool-by l h (Some x) w =
    cond-by SmallPoolRead (eqb x.kind 1) (λ e. from-small None tt 0 x l h) (λ e. garbage-small x w l h)

pool-small : (l : List ℕ) → InBytes l → SmallPoolRead (pool_of l)
unfolding pool_of
pool-small l h = pool-by l h (header_of l) (header-small l h)

pub record SmallOpened (o : Opened) : Type 0 where
  pub garbage : SmallSkipped o.garbage
  pub declared : Fits o.declared
  pub count : Fits o.head.count
  pub end : Fits (refusal_value (refusal_of o.end))

module _ (t : List ℕ) (short : Fits (8 + length t)) (g : Option Garbage) (w : SmallSkipped g) (p : Pool) (q : SmallPool p) where
  mapped-small : (m : Result ℕ MapShort) → SmallOpened (mapped_by t g p m)
  unfolding refusal_value
  mapped-small (Ok n) = record { garbage = w; declared = q.declared; count = q.count; end = omega arith }
  mapped-small (Err (map_short.Header left)) = record { garbage = w; declared = q.declared; count = q.count; end = omega (arith, short) }
  mapped-small (Err (map_short.Ids left)) = record { garbage = w; declared = q.declared; count = q.count; end = omega (arith, short) }

  pooled-small : (e : PoolEnd) → SmallOpened (pooled_by t g p e)
  unfolding refusal_value
  pooled-small Complete = mapped-small (map_of (drop (p.strings + p.size) t))
  pooled-small (GarbageShort left) = record { garbage = w; declared = q.declared; count = q.count; end = omega (arith, short) }
  pooled-small (HeaderShort left) = record { garbage = w; declared = q.declared; count = q.count; end = omega (arith, short) }
  pooled-small (OffsetsShort left) = record { garbage = w; declared = q.declared; count = q.count; end = omega (arith, short) }
  pooled-small (StylesShort left) = record { garbage = w; declared = q.declared; count = q.count; end = omega (arith, short) }
  pooled-small (DataShort left) = record { garbage = w; declared = q.declared; count = q.count; end = omega (arith, short) }

tables-small : (t : List ℕ) → InBytes t → Fits (8 + length t) → SmallOpened (tables_of t)
unfolding tables_of
tables-small t h short =
    let r = pool-small t h in
    pooled-small t short (pool_of t).garbage r.garbage (pool_of t).pool r.pool (pool_of t).end

pub opened-small : (f : List ℕ) → InBytes f → Fits (8 + length f) → SmallOpened (opened_of f)
unfolding opened_of refusal_value
opened-small f h short =
    cond-by SmallOpened (ltb (length f) 8)
    (λ e. record { garbage = tt; declared = omega arith; count = omega arith; end = omega (arith, short) })
    (λ e. cond-by SmallOpened (eqb (u16le f 2) 8) (λ e. tables-small (drop 8 f) (drop-bytes 8 f h) (omega (arith, short, length-drop 8 f)))
    (λ e. record { garbage = tt; declared = omega arith; count = omega arith; end = u16-fits f h 2 }))
