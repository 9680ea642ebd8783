-- Where records begin in a table, of any width. No contract cites this file.
use Prim.Native.Nat.{ℕ, ◌+◌, ◌*◌}
use native.Mathlib.Numerals.{add-one}
use native.Mathlib.Nat.{mul-suc}
use mathlib.Core.Path.{◌≡◌, sym, ◌∙◌}
use mathlib.Core.List.{List}
use lib.ListN.{drop}
use lib.Seq.{drop-drop}

-- one record on
pub drop-record : (width k : ℕ) (w : List ℕ) → drop width (drop (width * k) w) ≡ drop (width * (k + 1)) w
drop-record width k w = let e : width * k + width ≡ width * (k + 1) = sym (rw add-one (mul-suc width k)) in drop-drop width (width * k) w ∙ rw e
