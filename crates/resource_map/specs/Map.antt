-- The resource map at the front of a list of bytes, which is what follows the string pool: docs/FORMAT.md, H13 to H15.
--
--   map_of    how many ids it has; Err where its header or its ids run out, with the bytes left where that part begins
--   id_of     id i of the bytes behind its header
--
-- A header of any type stands for it. The ids follow its 8 bytes directly, also where its header size says otherwise.
use Rattle.std.specs.Prelude.{ℕ, ◌-◌, ◌*◌, ◌/◌, List, cond, length, ltb, Option, Some, None, Result, Ok, Err}
use Rattle.field.specs.Le.{u32le}
use Rattle.common.specs.Header.{header_of}
use Rattle.common.specs.declared.ResChunkHeader.{ResChunkHeader}
use Rattle.resource_map.specs.declared.MapShort.{MapShort}
use Rattle.resource_map.specs.declared.MapShort.TheVariants as map_short

unfoldable pub ids_in : ResChunkHeader → ℕ
ids_in h = (h.size - h.header_size) / 4

-- n bytes behind the header h
unfoldable pub ids_by : ℕ → ResChunkHeader → Result ℕ MapShort
ids_by n h = cond (ltb n (4 * ids_in h)) (Err (map_short.Ids n)) (Ok (ids_in h))

-- n bytes, and what they begin with
abbrev pub map_by : ℕ → Option ResChunkHeader → Result ℕ MapShort
map_by n None = Err (map_short.Header n)
map_by n (Some h) = ids_by (n - 8) h

unfoldable pub map_of : List ℕ → Result ℕ MapShort
map_of l = map_by (length l) (header_of l)

unfoldable pub id_of : List ℕ → ℕ → ℕ
id_of l i = u32le l (4 * i)
