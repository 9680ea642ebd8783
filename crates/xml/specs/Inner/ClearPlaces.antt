-- A place of a text in UTF-8 that no name ends at. Only the contracts of inner functions cite this file; proofs/ClearPlaces.antt shows that such a place
-- is passed by one byte.
--
--   Clear      what begins with these four bytes, or with fewer of them, is a char of a name: its value, or U+FFFD where it is damaged, and so a byte that
--              begins nothing, or that stands inside a char. A byte behind the end reads as 0
use Rattle.std.specs.Prelude.{◌≡◌, ℕ}
use Rattle.utf.specs.Text.{step_value}
use Rattle.utf.specs.Inner.Lead.{lead_of, step_by}
use Rattle.xml.specs.NCName.{char_sort}

pub record Clear (b c d e : ℕ) : Type 0 where
  pub char : char_sort (step_value (step_by (lead_of b) b c d e)) ≡ 0 → ⊥
