-- The header at the front of a list of bytes: docs/FORMAT.md, C1, C2.
--
--   header_of      the header that the list begins with: 2 bytes of type, 2 of header size, 4 of size; None where fewer than 8 bytes are left
--   content_size   the bytes of content that a header promises behind its own 8; 0 where its size is below 8
--
-- A list is the bytes left, never the whole file. `◌-◌` stops at 0. Laws: proofs/Laws.antt.
use Rattle.std.specs.Prelude.{ℕ, ◌-◌, List, cond, length, ltb, Option, Some, None}
use Rattle.field.specs.Le.{u16le, u32le}
use Rattle.common.specs.declared.ResChunkHeader.{ResChunkHeader}

unfoldable pub header_of : List ℕ → Option ResChunkHeader
header_of l = cond (ltb (length l) 8) None (Some (record { kind = u16le l 0; header_size = u16le l 2; size = u32le l 4 }))

abbrev pub content_size : ResChunkHeader → ℕ
content_size h = h.size - 8
