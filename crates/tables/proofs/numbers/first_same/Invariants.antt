-- `tables::numbers::first_same` meets its contract: the first place of the same text, or none. Invariant: no place before q has the same text.
use Prim.Native.Nat.{ℕ, ◌<◌}
use mathlib.Core.Path.{◌≡◌}
use mathlib.Core.Bool.{false}
use Rattle.system_types.specs.Names.{lends}
use Rattle.text.specs.Content.{same_name}
use Rattle.tables.specs.Inner.Numbered.{met_at}
use Rattle.tables.proofs.numbers.first_same.Given as goal

abbrev pub invariant-loop-q : goal.invariant-loop-q
invariant-loop-q l = (k : ℕ) → k < l.q → met_at (same_name l.h l.t (lends l.names l.area)) l.numbers l.own.0 k ≡ false
