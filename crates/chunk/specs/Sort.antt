-- What sort of chunk a header begins, and what it takes where it is not looked into: docs/FORMAT.md, C3, W2, W3.
--
--   is_xml        0x100 to 0x104 and 0x17f; not 0x105 to 0x17e, nor 0x180
--   chunk_sort    0: not XML; 1: XML whose header size is not 16; 2: ordinary. Sorts 0 and 1 are foreign
--   content_size  of a chunk of this size with `left` bytes behind its header, the bytes of content that go with it: size - 8, or none where
--                that passes the end; content that ends at the very end goes
--   foreign_len   with n bytes left from the header on, all that a foreign chunk takes: its 8 bytes and its content
--
-- `◌-◌` stops at 0, so a size below 8 has no content. Laws: proofs/Laws.antt.
use Rattle.std.specs.Prelude.{ℕ, ◌+◌, ◌-◌, Bool, cond, ◌&&◌, ◌||◌, leb, eqb}
use Rattle.common.specs.declared.ResChunkHeader.{ResChunkHeader}

unfoldable pub is_xml : ℕ → Bool
is_xml k = (leb 0x100 k && leb k 0x104) || eqb k 0x17f

unfoldable pub chunk_sort : ResChunkHeader → ℕ
chunk_sort h = cond (is_xml h.kind) (cond (eqb h.header_size 16) 2 1) 0

unfoldable pub content_size : ℕ → ℕ → ℕ
content_size left size = cond (leb (size - 8) left) (size - 8) 0

unfoldable pub foreign_len : ℕ → ResChunkHeader → ℕ
foreign_len n h = 8 + content_size (n - 8) h.size
