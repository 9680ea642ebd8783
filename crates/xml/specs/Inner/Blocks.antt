-- A block: 64 or 48 bytes of one form, that are looked at byte by byte, each at its place. Only the contracts of inner functions cite this file.
--
--   Form       what a block holds (src/blocks.rt): 32 units of ASCII, or 32 far units, in UTF-16; in UTF-8 64 chars of ASCII, 32 pairs, or 16 chars of
--              three bytes. specs/Inner/SeenChars.antt has the bytes
--   in_utf16    a form of UTF-16
--   size_of     how many bytes a block has
--   is_odd      the place of a unit's high byte, or of a pair's second, where the block begins with the first
--   fits_at     whether a byte may stand at place k of a block
--   all_fit     each of the n bytes from a place on may stand where it stands
use Rattle.std.specs.Prelude.{ℕ, zero, suc, ◌+◌, ◌%◌, Bool, true, false, ◌&&◌, cond, List, eqb, get_or}
use Rattle.xml.specs.declared.blocks.Form.{Form}
use Rattle.xml.specs.declared.blocks.Form.TheVariants.{AsciiUnits, FarUnits, Ascii, Pairs, Triples}
use Rattle.xml.specs.Inner.SeenChars.{ascii_low, far_high, is_trail, pair_lead, triple_lead, triple_second}

abbrev pub in_utf16 : Form → Bool
in_utf16 AsciiUnits = true
in_utf16 FarUnits = true
in_utf16 Ascii = false
in_utf16 Pairs = false
in_utf16 Triples = false

abbrev pub size_of : Form → ℕ
size_of AsciiUnits = 64
size_of FarUnits = 64
size_of Ascii = 64
size_of Pairs = 64
size_of Triples = 48

abbrev pub is_odd : ℕ → Bool
is_odd k = eqb (k % 2) 1

unfoldable pub fits_at : Form → ℕ → ℕ → Bool
fits_at AsciiUnits k b = cond (is_odd k) (eqb b 0) (ascii_low b)
fits_at FarUnits k b = cond (is_odd k) (far_high b) true
fits_at Ascii k b = ascii_low b
fits_at Pairs k b = cond (is_odd k) (is_trail b) (pair_lead b)
fits_at Triples k b = cond (eqb (k % 3) 0) (triple_lead b) (cond (eqb (k % 3) 1) (triple_second b) (is_trail b))

unfoldable pub all_fit : Form → List ℕ → ℕ → ℕ → Bool
unfolding fits_at
all_fit form s at zero = true
all_fit form s at (suc n) = fits_at form n (get_or s (at + n) 0) && all_fit form s at n
