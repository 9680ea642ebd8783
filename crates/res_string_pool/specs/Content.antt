-- A string at the front of a list of bytes, which is the rest of the pool's data from its offset on: docs/FORMAT.md, T2 to T6.
--
--   split_of     where its content begins and how many bytes it has; Cut where the bytes do not suffice
--
-- A length of two parts has the high part first. The closing bytes must be there and may hold anything. Past the end a byte
-- reads as 0: each byte that is looked at lies before the closing bytes, so where one is missing the sum says so.
use Rattle.std.specs.Prelude.{ℕ, ◌+◌, ◌*◌, ◌%◌, List, Bool, cond, length, leb, Option, Some, None}
use Rattle.field.specs.Le.{u8le, u16le}

-- ---- UTF-8: a character length, which is passed over, and a byte length; each 1 byte or, with bit 7 set, 15 bits over 2

abbrev pub width8 : List ℕ → ℕ → ℕ
width8 l at = cond (leb 128 (u8le l at)) 2 1

abbrev pub length8 : List ℕ → ℕ → ℕ
length8 l at = cond (leb 128 (u8le l at)) (u8le l at % 128 * 256 + u8le l (at + 1)) (u8le l at)

-- ---- UTF-16: a unit length of 2 bytes or, with bit 15 set, 31 bits over 4

abbrev pub width16 : List ℕ → ℕ
width16 l = cond (leb 32768 (u16le l 0)) 4 2

abbrev pub length16 : List ℕ → ℕ
length16 l = cond (leb 32768 (u16le l 0)) (u16le l 0 % 32768 * 65536 + u16le l 2) (u16le l 0)

-- the content of n bytes at the place `at`, with `closing` bytes behind it
abbrev pub within : List ℕ → ℕ → ℕ → ℕ → Option (ℕ × ℕ)
within l at n closing = cond (leb (at + n + closing) (length l)) (Some (at, n)) None

unfoldable pub split8 : List ℕ → Option (ℕ × ℕ)
split8 l = within l (width8 l 0 + width8 l (width8 l 0)) (length8 l (width8 l 0)) 1

unfoldable pub split16 : List ℕ → Option (ℕ × ℕ)
split16 l = within l (width16 l) (2 * length16 l) 2

abbrev pub split_of : Bool → List ℕ → Option (ℕ × ℕ)
split_of utf16 l = cond utf16 (split16 l) (split8 l)
