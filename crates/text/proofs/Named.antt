-- A text that is a valid name and whole, by the part that was found. No contract cites this file.
use Prim.Native.Nat.{ℕ}
use mathlib.Core.Path.{◌≡◌, refl, ap, ◌∙◌}
use mathlib.Core.List.{List}
use mathlib.Core.Bool.{Bool, true, false, ◌&&◌}
use lib.Dec.{eqb}
use Rattle.utf.specs.Text.{is_sound, damage_of, state_number}
use Rattle.utf.proofs.BadSteps.{state-whole, state-utf16, state-utf8}
use Rattle.xml.specs.NCName.{valid_name}
use Rattle.text.specs.Content.{some}
use Rattle.text.specs.Inner.Found.{whole_name}

unsound : (w : Bool) (s : List ℕ) → is_sound w s ≡ false → false ≡ eqb (state_number (damage_of w s)) 0
unsound true s e = ap (λ (n : ℕ). eqb n 0) (state-utf16 true s refl e)
unsound false s e = ap (λ (n : ℕ). eqb n 0) (state-utf8 false s refl e)

-- the state of a text is 0 exactly where it is sound
pub state-sound : (w : Bool) (s : List ℕ) → is_sound w s ≡ eqb (state_number (damage_of w s)) 0
state-sound w s = go (is_sound w s) refl
  where
    go : (t : Bool) → is_sound w s ≡ t → is_sound w s ≡ eqb (state_number (damage_of w s)) 0
    go true e = e ∙ ap (λ (n : ℕ). eqb n 0) (state-whole w s e)
    go false e = e ∙ unsound w s e

pub whole-some : (w : Bool) (s : List ℕ) → (valid_name w s && is_sound w s) ≡ whole_name (some w s)
whole-some w s = ap (λ (b : Bool). valid_name w s && b) (state-sound w s)
