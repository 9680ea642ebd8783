-- Chunks that are a header and nothing else. Only the contracts of inner functions cite this file.
--
--   is_bare    the 8 bytes at the front are surely such a chunk, and not XML: the high byte of its type is not 1, which it is in every XML type,
--             and its size is at most 8. The sizes below 8 are among them: they have no content either
--   all_bare   n such chunks stand at the front, one behind the other
--
-- Laws: proofs/HeaderOnly.antt.
use Rattle.std.specs.Prelude.{ℕ, zero, suc, ◌/◌, List, Bool, true, not, ◌&&◌, drop, leb, eqb}
use Rattle.field.specs.Le.{u16le, u32le}

unfoldable pub is_bare : List ℕ → Bool
is_bare l = not (eqb (u16le l 0 / 256) 1) && leb (u32le l 4) 8

unfoldable pub all_bare : ℕ → List ℕ → Bool
all_bare zero l = true
all_bare (suc n) l = is_bare l && all_bare n (drop 8 l)
