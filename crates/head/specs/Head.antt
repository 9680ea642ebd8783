-- The head of a file, from its first byte to the end of the resource map: docs/FORMAT.md, H1 to H17.
--
--   opened_of     what the head says, and whether all of it is there or what is amiss, with the file offset at which a short part should begin
--   begins_at     the file offset at which a part should begin
--   tables_in     the bytes that texts are read from, pool and map; body_in all that is behind them, which is walked
--   PoolThere    the pool is there whole, so that texts can be read; the map may be short
--   head_is_whole  all of it is there; refusal_of the refusal of a head that is not whole: 1, 3, 41 to 45, 51, 52
--   garbage_notes note 0, count_notes note 1: both fall due before the pool is known to be whole; offset_notes note 2, before the map
--
-- The type and the total size of the file's header are not looked at. A number that the bytes do not reach is 0. A place is counted
-- from the first byte behind the file's header, a file offset from the file's first. Laws: proofs/Laws.antt, proofs/Shorts.antt.
use Rattle.std.specs.Prelude.{ℕ, ◌+◌, ◌-◌, ◌*◌, List, [], ◌∷◌, Bool, true, false, cond, not, length, take, drop, ltb, eqb, Result, Ok, Err, Option, Some, None}
use Rattle.field.specs.Le.{u16le}
use Rattle.errors.specs.declared.Refusal.{Refusal}
use Rattle.errors.specs.declared.Refusal.TheVariants.{TooSmallError, HeaderSizeError, MissingRoot, StringPoolGarbage, StringPoolHeader}
use Rattle.errors.specs.declared.Refusal.TheVariants.{StringPoolOffsets, StringPoolStyles, StringPoolData, ResourceMapHeader, ResourceMapIds}
use Rattle.anomaly.specs.declared.ResAnomaly.{ResAnomaly}
use Rattle.anomaly.specs.declared.ResAnomaly.TheVariants.{StringPoolGarbageChunk, StringCountMismatch, StringOffsetsOutOfBounds}
use Rattle.res_string_pool.specs.Pool.{pool_of, outside_of}
use Rattle.res_string_pool.specs.declared.Garbage.{Garbage}
use Rattle.res_string_pool.specs.declared.Pool.{Pool}
use Rattle.res_string_pool.specs.declared.PoolEnd.{PoolEnd}
use Rattle.res_string_pool.specs.declared.PoolEnd.TheVariants.{Complete, GarbageShort, HeaderShort, OffsetsShort, StylesShort, DataShort}
use Rattle.resource_map.specs.Map.{map_of}
use Rattle.text.specs.declared.Head.{Head}
use Rattle.head.specs.declared.HeadEnd.{HeadEnd}
use Rattle.head.specs.declared.HeadEnd.TheVariants.{Whole, TooSmall, HeaderSize, PoolShort, MapShort}
use Rattle.head.specs.declared.PoolPart.{PoolPart}
use Rattle.head.specs.declared.PoolPart.TheVariants.{Skipped, Header, Offsets, Styles, Data}
use Rattle.head.specs.declared.MapPart.{MapPart}
use Rattle.head.specs.declared.MapPart.TheVariants.{MapHeader, MapIds}
use Rattle.head.specs.declared.Opened.{Opened}
use Rattle.resource_map.specs.declared.MapShort.{MapShort as MapMissing}
use Rattle.resource_map.specs.declared.MapShort.TheVariants as map_short

-- ---- what the head says

abbrev pub head_by : Pool → ℕ → ℕ → Head
head_by p map ids = record { utf16 = p.utf16; count = p.count; offsets = p.offsets; strings = p.strings; size = p.size; map = map; ids = ids }

abbrev pub no_head : Head
no_head = record { utf16 = false; count = 0; offsets = 0; strings = 0; size = 0; map = 0; ids = 0 }

abbrev pub unopened : HeadEnd → Opened
unopened e = record { garbage = None; declared = 0; end = e; head = no_head }

abbrev pub whole_head : Option Garbage → Pool → ℕ → ℕ → Opened
whole_head g p map ids = record { garbage = g; declared = p.declared; end = Whole; head = head_by p map ids }

-- a pool or a map of which a part ran out, with the file offset at which it should begin; the map begins at the place `at`
abbrev pub cut_pool : Option Garbage → Pool → PoolPart → Opened
cut_pool g p e = record { garbage = g; declared = p.declared; end = PoolShort e; head = head_by p 0 0 }

abbrev pub cut_map : Option Garbage → Pool → ℕ → MapPart → Opened
cut_map g p at e = record { garbage = g; declared = p.declared; end = MapShort e; head = head_by p at 0 }

-- t: the bytes behind the file's header

-- where in the file a part should begin that had only `left` bytes, however many of them are its own
abbrev pub begins_at : List ℕ → ℕ → ℕ
begins_at t left = 8 + length t - left

-- behind a whole pool the map
abbrev pub mapped_by : List ℕ → Option Garbage → Pool → Result ℕ MapMissing → Opened
mapped_by t g p (Ok n) = whole_head g p (p.strings + p.size + 8) n
mapped_by t g p (Err (map_short.Header left)) = cut_map g p (p.strings + p.size) (MapHeader (begins_at t left))
mapped_by t g p (Err (map_short.Ids left)) = cut_map g p (p.strings + p.size) (MapIds (begins_at t left))

abbrev pub pooled_by : List ℕ → Option Garbage → Pool → PoolEnd → Opened
pooled_by t g p Complete = mapped_by t g p (map_of (drop (p.strings + p.size) t))
pooled_by t g p (GarbageShort left) = cut_pool g p (Skipped (begins_at t left))
pooled_by t g p (HeaderShort left) = cut_pool g p (Header (begins_at t left))
pooled_by t g p (OffsetsShort left) = cut_pool g p (Offsets (begins_at t left))
pooled_by t g p (StylesShort left) = cut_pool g p (Styles (begins_at t left))
pooled_by t g p (DataShort left) = cut_pool g p (Data (begins_at t left))

unfoldable pub tables_of : List ℕ → Opened
tables_of t = pooled_by t (pool_of t).garbage (pool_of t).pool (pool_of t).end

unfoldable pub opened_of : List ℕ → Opened
opened_of f =
    cond (ltb (length f) 8) (unopened (TooSmall (length f)))
    (cond (eqb (u16le f 2) 8) (tables_of (drop 8 f)) (unopened (HeaderSize (u16le f 2))))

-- the bytes that texts are read from, from the pool to the end of the map; and the body, all that is behind them
abbrev pub head_len : Head → ℕ
head_len h = h.map + 4 * h.ids

abbrev pub tables_in : List ℕ → Head → List ℕ
tables_in f h = take (head_len h) (drop 8 f)

abbrev pub body_in : List ℕ → Head → List ℕ
body_in f h = drop (8 + head_len h) f

-- the pool is there, so texts can be read
abbrev pub PoolThere : HeadEnd → Type 0
PoolThere Whole = Unit {0}
PoolThere (MapShort e) = Unit {0}
PoolThere (PoolShort e) = ⊥
PoolThere (TooSmall n) = ⊥
PoolThere (HeaderSize n) = ⊥

-- ---- its refusals and its notes

abbrev pub head_is_whole : HeadEnd → Bool
head_is_whole Whole = true
head_is_whole (TooSmall n) = false
head_is_whole (HeaderSize n) = false
head_is_whole (PoolShort e) = false
head_is_whole (MapShort e) = false

abbrev pub pool_refusal : PoolPart → Refusal
pool_refusal (Skipped at) = StringPoolGarbage at
pool_refusal (Header at) = StringPoolHeader at
pool_refusal (Offsets at) = StringPoolOffsets at
pool_refusal (Styles at) = StringPoolStyles at
pool_refusal (Data at) = StringPoolData at

abbrev pub map_refusal : MapPart → Refusal
map_refusal (MapHeader at) = ResourceMapHeader at
map_refusal (MapIds at) = ResourceMapIds at

abbrev pub refusal_of : HeadEnd → Refusal
refusal_of (TooSmall n) = TooSmallError n
refusal_of (HeaderSize n) = HeaderSizeError n
refusal_of (PoolShort e) = pool_refusal e
refusal_of (MapShort e) = map_refusal e
refusal_of Whole = MissingRoot

abbrev pub when_note : Bool → ResAnomaly → List ResAnomaly
when_note true a = a ∷ []
when_note false a = []

-- note 0: a chunk in the pool's place was skipped
abbrev pub garbage_note : Option Garbage → List ResAnomaly
garbage_note None = []
garbage_note (Some g) = StringPoolGarbageChunk g.kind g.skipped ∷ []

abbrev pub garbage_notes : Opened → List ResAnomaly
garbage_notes o = garbage_note o.garbage

-- note 1: the declared count is not the count that holds
abbrev pub count_notes : Opened → List ResAnomaly
count_notes o = when_note (not (eqb o.declared o.head.count)) (StringCountMismatch o.declared o.head.count)

-- how many offsets are at or past the data's length
unfoldable pub outside_in : List ℕ → Head → ℕ
outside_in t h = outside_of (drop h.offsets t) h.size h.count

-- note 2
abbrev pub offset_notes : List ℕ → Opened → List ResAnomaly
offset_notes t o = when_note (not (eqb (outside_in t o.head) 0)) (StringOffsetsOutOfBounds (outside_in t o.head))
