-- The items before one, the last first, as the check of the table goes back over them.
use Rattle.std.specs.Prelude.{ℕ, zero, suc, List, [], ◌∷◌}
use Rattle.items.specs.declared.Item.{Item}
use Rattle.items.specs.Items.{item_at}

unfoldable pub back_to : List ℕ → ℕ → List Item
back_to w zero = []
back_to w (suc k) = item_at w k ∷ back_to w k
