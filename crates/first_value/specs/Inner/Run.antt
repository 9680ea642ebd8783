-- What is known of a node that was found: its attributes lie in the table.
--
--   RunFits   of a node and the words of the attribute table; nothing where no node was found
use Rattle.std.specs.Prelude.{ℕ, ◌+◌, ◌*◌, ◌≤◌, ◌≡◌, List, length, Option, Some}
use Rattle.records.specs.Words.{attribute_width}

pub record RunFits (ats : List ℕ) (node : Option (ℕ × ℕ)) : Type 0 where
  pub inside : (first number : ℕ) → node ≡ Some (first, number) → attribute_width * first + attribute_width * number ≤ length ats
