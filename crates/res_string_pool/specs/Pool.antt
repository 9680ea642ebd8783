-- The string pool at the front of a list of bytes: docs/FORMAT.md, H4 to H12 and T1.
--
--   pool_of      the pool's numbers, and whether all of it is there or which part ran out with how many bytes left
--   count_of     how many strings: (start - (4 * styles + 28)) / 4, product and sum capped at 2 ^ 32 - 1, never below 0
--   offset_of    where string i begins in the data
--   outside_of   how many offsets are at or past the data's length (note 2)
--
-- The list is the bytes behind the file's first 8; a place is counted from its front. `◌-◌` stops at 0. A number that the
-- bytes do not reach is 0, so a note speaks only of what was read. Laws: proofs/Laws.antt.
use Rattle.std.specs.Prelude.{ℕ, zero, suc, ◌+◌, ◌-◌, ◌*◌, ◌/◌, ◌%◌, min, List, Bool, true, false, cond, length, drop, ltb, leb, eqb, Option, Some, None}
use Rattle.field.specs.Le.{u32le}
use Rattle.common.specs.Header.{header_of, content_size}
use Rattle.common.specs.declared.ResChunkHeader.{ResChunkHeader}
use Rattle.res_string_pool.specs.declared.Garbage.{Garbage}
use Rattle.res_string_pool.specs.declared.Pool.{Pool}
use Rattle.res_string_pool.specs.declared.PoolEnd.{PoolEnd}
use Rattle.res_string_pool.specs.declared.PoolEnd.TheVariants.{Complete, GarbageShort, HeaderShort, OffsetsShort, StylesShort, DataShort}
use Rattle.res_string_pool.specs.declared.PoolRead.{PoolRead}

-- ---- numbers

-- no more than 32 bits hold
abbrev pub capped : ℕ → ℕ
capped n = min n 4294967295

unfoldable pub count_of : ℕ → ℕ → ℕ
count_of start styles = (start - capped (capped (4 * styles) + 28)) / 4

-- bit 8 of the flags says UTF-8; UTF-16 is `utf16`
abbrev pub is_utf16 : ℕ → Bool
is_utf16 flags = eqb (flags / 256 % 2) 0

-- ---- the parts, each behind the one before

abbrev pub no_pool : Pool
no_pool = record { declared = 0; count = 0; utf16 = false; offsets = 0; strings = 0; size = 0 }

abbrev pub unread : Option Garbage → PoolEnd → PoolRead
unread g e = record { garbage = g; pool = no_pool; end = e }

-- With m the bytes from the pool's header h on, at the place `at`: five numbers, then the offsets, the styles, the data.
-- g is the chunk that was skipped in front of it, `None` where none was.
unfoldable pub numbered : ℕ → ResChunkHeader → List ℕ → Pool
numbered at h m =
    let count = count_of (u32le m 20) (u32le m 12) in
    record {
      declared = u32le m 8;
      count = count;
      utf16 = is_utf16 (u32le m 16);
      offsets = at + 28;
      strings = at + 28 + 4 * count + 4 * u32le m 12;
      size = h.size - u32le m 20;
    }

-- n bytes behind the five numbers; the offsets take 4 * count of them, the styles 4 * styles, the data size
unfoldable pub end_of : ℕ → ℕ → ℕ → ℕ → PoolEnd
end_of n count styles size =
    cond (ltb n (4 * count)) (OffsetsShort n)
    (cond (ltb (n - 4 * count) (4 * styles)) (StylesShort (n - 4 * count))
    (cond (ltb (n - 4 * count - 4 * styles) size) (DataShort (n - 4 * count - 4 * styles)) Complete))

unfoldable pub pool_from : Option Garbage → ℕ → ResChunkHeader → List ℕ → PoolRead
pool_from g at h m =
    let pool = numbered at h m in
    cond (ltb (length m) 28) (unread g (HeaderShort (length m - 8)))
    (record { garbage = g; pool = pool; end = end_of (length m - 28) pool.count (u32le m 12) pool.size })

-- the second header, behind a chunk that was skipped: its type is not tested
abbrev pub second_by : Option Garbage → ℕ → List ℕ → Option ResChunkHeader → PoolRead
second_by g at m None = unread g (HeaderShort (length m))
second_by g at m (Some h) = pool_from g at h m

-- a chunk of another type in the pool's place is skipped by its size
unfoldable pub behind_garbage : ResChunkHeader → List ℕ → PoolRead
behind_garbage h l =
    let skipped = content_size h in
    let m = drop (8 + skipped) l in
    cond (ltb (length l - 8) skipped) (unread None (GarbageShort (length l - 8)))
    (second_by (Some (record { kind = h.kind; skipped = skipped })) (8 + skipped) m (header_of m))

abbrev pub pool_by : List ℕ → Option ResChunkHeader → PoolRead
pool_by l None = unread None (HeaderShort (length l))
pool_by l (Some h) = cond (eqb h.kind 1) (pool_from None 0 h l) (behind_garbage h l)

unfoldable pub pool_of : List ℕ → PoolRead
pool_of l = pool_by l (header_of l)

-- ---- the offsets

-- where string i begins in the data, o being the bytes of the offsets
unfoldable pub offset_of : List ℕ → ℕ → ℕ
offset_of o i = u32le o (4 * i)

-- of the first n offsets, how many are at or past the data's length
unfoldable pub outside_of : List ℕ → ℕ → ℕ → ℕ
unfolding offset_of
outside_of o size zero = 0
outside_of o size (suc n) = outside_of o size n + cond (leb size (offset_of o n)) 1 0
