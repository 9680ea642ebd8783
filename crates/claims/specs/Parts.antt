-- A part of the head that is short: docs/FORMAT.md, H15, P6.
--
--   is_part_number   41 to 45 and 51, 52: a part of the string pool, or of the resource map, is not there whole; is_part of a refusal
--
-- The refusal's value is the file offset at which that part should begin.
use Rattle.std.specs.Prelude.{ℕ, Bool, ◌&&◌, ◌||◌, leb}
use Rattle.errors.specs.Refusal.{refusal_number}
use Rattle.errors.specs.declared.Refusal.{Refusal}

abbrev pub is_part_number : ℕ → Bool
is_part_number n = (leb 41 n && leb n 45) || (leb 51 n && leb n 52)

abbrev pub is_part : Refusal → Bool
is_part x = is_part_number (refusal_number x)
