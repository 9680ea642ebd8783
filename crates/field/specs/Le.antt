-- Numbers in a list of bytes, the low byte first: docs/FORMAT.md, F1.
--
--   u8le    the byte at a place
--   u16le   the two bytes at a place
--   u32le   the four bytes at a place
--
-- Past the end a byte reads as 0; the readers ask that their bytes are there. Laws: proofs/Laws.antt.
use Rattle.std.specs.Prelude.{ℕ, ◌+◌, ◌*◌, List, get_or}

abbrev pub u8le : List ℕ → ℕ → ℕ
u8le s at = get_or s at 0

unfoldable pub u16le : List ℕ → ℕ → ℕ
u16le s at = get_or s at 0 + 256 * get_or s (at + 1) 0

unfoldable pub u32le : List ℕ → ℕ → ℕ
u32le s at = u16le s at + 65536 * u16le s (at + 2)
