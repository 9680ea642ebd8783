-- Names spread over places, and for each place the first item that stands there: how the code finds the items of a name. No claim reaches this file.
--
--   place_of   the place of a name, by its length, its last byte and its first
--   Firsts    what is kept: for no item a number above its own, at the place of its attribute's name
use Rattle.std.specs.Prelude.{ℕ, ◌+◌, ◌-◌, ◌*◌, ◌/◌, ◌%◌, ◌≤◌, ◌<◌, ◌≡◌, cond, List, length, get_or, ltb}
use Rattle.records.specs.Words.{item_width}
use Rattle.items.specs.Items.{item_at, attribute_of}

abbrev pub place_count : ℕ
place_count = 256

unfoldable pub place_of : List ℕ → ℕ
place_of s =
    cond (ltb (length s) 1) 0 ((length s % place_count + 16 * get_or s (length s - 1) 0 + 5 * get_or s 0 0) % place_count)

pub record Firsts (area w firsts : List ℕ) : Type 0 where
  pub long : length firsts ≡ place_count
  pub least : (k : ℕ) → k < length w / item_width → get_or firsts (place_of (attribute_of area (item_at w k))) 0 ≤ k
