-- Half of a node's or an attribute's line, as the code writes it.
use Rattle.std.specs.Prelude.{ℕ, List, [], ◌∷◌, ◌++◌}
use Rattle.listing_text.specs.Listing.{Field, field_text}

-- three fields: the byte b behind the first and the second, the byte e behind the third
abbrev pub three_text : ℕ → ℕ → Field → Field → Field → List ℕ
three_text b e f g h = (field_text f ++ (b ∷ [])) ++ ((field_text g ++ (b ∷ [])) ++ (field_text h ++ (e ∷ [])))
